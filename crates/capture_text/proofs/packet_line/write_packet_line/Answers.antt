use Rattle.std.proofs.Common.{◌≡◌, ◌++◌, List, ℕ, append_assoc}
use Rattle.std.proofs.KnownBytes.{Appends-trans}
use Rattle.std.specs.List.{flat_map}
use Rattle.std.specs.Prelude.{codes, decimal}
use Rattle.capture_text.specs.ArpText.{arp_text}
use Rattle.capture_text.specs.CommentsText.{comments_part}
use Rattle.capture_text.specs.InterfaceText.{interface_text}
use Rattle.capture_text.specs.PacketLine.{details_text, end_text, fragment_text, frame_text, tunnel_text}
use Rattle.capture_words.specs.TimeText.{time_text}
use Rattle.capture_words.proofs.WrittenLemmas.{one_then}
use Rattle.capture_text.proofs.packet_line.write_packet_line.Goals as goal

-- the parts of a line, in their order
line_text : (a b c d e f g h i j k l m : List ℕ)
    → (((((((((((a ++ b) ++ c) ++ d) ++ e) ++ f) ++ g) ++ h) ++ i) ++ j) ++ k) ++ l) ++ m
    ≡ a ++ (b ++ (c ++ (d ++ (e ++ (f ++ (g ++ (h ++ (i ++ (j ++ (k ++ (l ++ m)))))))))))
line_text a b c d e f g h i j k l m = simp append_assoc

pub returns : goal.returns
returns g c =
    let (what, is, appends) = c.in_ok-write_content.ensures in
    let info = c.args.info.now in
    let packet = c.args.packet.now in
    let tunnels = rw c.as_slice.ensures.value at c.in_ok-write_tunnels.ensures in
    one_then _ _ _ _ _ _ _
    (Appends-trans _ _ _ _ _ (Appends-trans _ _ _ _ _ (Appends-trans _ _ _ _ _
    (Appends-trans _ _ _ _ _ (Appends-trans _ _ _ _ _ (Appends-trans _ _ _ _ _ (Appends-trans _ _ _ _ _ (Appends-trans _ _ _ _ _
    (Appends-trans _ _ _ _ _ (Appends-trans _ _ _ _ _ c.in_ok-write.ensures.bytes c.in_ok-write_time.ensures)
    c.in_ok-write_interface.ensures) c.in_ok-write_frame_len.ensures) tunnels) appends) c.in_ok-write_arp.ensures)
    c.in_ok-write_fragment.ensures) c.in_ok-write_details.ensures) c.in_ok-write_end.ensures) c.in_ok-write_comments_part.ensures) (
      what,
      is,
      line_text (decimal info.number) (codes " ") (time_text c.args.times info.first info.capture.time) (interface_text info.texts.interface)
          (frame_text info.capture.len) (flat_map tunnel_text packet.tunnels.items) what (arp_text packet.arp)
          (fragment_text packet.fragment)
          (details_text c.args.verbose packet) (end_text packet.content packet.verdict)
          (comments_part c.args.verbose info.texts.comments) (codes "\n"),
    )
    c.writeln.ensures.bytes
