use Rattle.capture_json.proofs.verdict.put_verdict.Goals as goal

pub returns-in_ok-put_number-in-TooLong : goal.returns-in_ok-put_number-in-TooLong
returns-in_ok-put_number-in-TooLong c =
    rw c.in-TooLong.is (simp (c.in_ok-put_number-in-TooLong.ensures, c.from.ensures, c.in_ok-put_not_tested-in-TooLong.ensures))
