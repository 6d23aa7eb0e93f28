use Rattle.std.proofs.Common.{◌≡◌, IfOk, string_bytes, subst, sym}
use Rattle.capture_arguments.specs.Chosen.{choice_text}
use Rattle.capture_arguments.proofs.chosen.choice_text.Goals as goal

-- a host
pub returns-in-Host-clause-text : goal.returns-in-Host-clause-text
returns-in-Host-clause-text g c =
    subst (λ error. IfOk c.text.result (λ text. string_bytes text ≡ choice_text error)) (sym c.in-Host.is) c.text.ensures.text

-- a port
pub returns-in-Port-clause-text : goal.returns-in-Port-clause-text
returns-in-Port-clause-text g c =
    subst (λ error. IfOk c.text-in-Port.result (λ text. string_bytes text ≡ choice_text error))
    (sym c.in-Port.is) c.text-in-Port.ensures.text

-- a protocol
pub returns-in-Protocol-clause-text : goal.returns-in-Protocol-clause-text
returns-in-Protocol-clause-text g c =
    subst (λ error. IfOk c.text-in-Protocol.result (λ text. string_bytes text ≡ choice_text error))
    (sym c.in-Protocol.is) c.text-in-Protocol.ensures.text

-- a time
pub returns-in-Time-clause-text : goal.returns-in-Time-clause-text
returns-in-Time-clause-text g c =
    subst (λ error. IfOk c.text-in-Time.result (λ text. string_bytes text ≡ choice_text error))
    (sym c.in-Time.is) c.text-in-Time.ensures.text

-- too many values
pub returns-in-TooMany-clause-text : goal.returns-in-TooMany-clause-text
returns-in-TooMany-clause-text g c =
    subst (λ error. IfOk c.text-in-TooMany.result (λ text. string_bytes text ≡ choice_text error)) (sym c.in-TooMany.is)
    c.text-in-TooMany.ensures.text
