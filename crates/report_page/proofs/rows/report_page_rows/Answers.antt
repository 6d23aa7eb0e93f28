use Rattle.std.proofs.Common.{inl}
use Rattle.report_page.proofs.rows.report_page_rows.Goals as goal

-- the beginning was read, and then the rows were filled
pub returns-in-Ok-Ok : goal.returns-in-Ok-Ok
returns-in-Ok-Ok c =
    let room = c.read_header.auto.buffer in
    inl (
      c.in-Ok-Ok.reader,
      c.read_header.new.buffer,
      room,
      _,
      rw c.in-Ok-Ok.field-0-is at c.in-Ok-Ok.ensures,
      _,
      _,
      rw (room, c.is_set.ensures) at c.fill_rows.ensures,
    )
