use Rattle.ip_translation.proofs.OctetLemmas.{compared_as_numbers}
use Rattle.ip_translation.proofs.prefix64.are_equal.Goals as goal

pub returns-then-front-other_front : goal.returns-then-front-other_front
returns-then-front-other_front c =
    let numbers = c.numbers_of-front in
    let others = c.numbers_of-other_front in
    compared_as_numbers c.args.octets.now c.args.others.now numbers.result.0 others.result.0 numbers.result.1 others.result.1
    c.told-octets c.told-others c.fits-octets c.fits-others
    numbers.ensures.front others.ensures.front numbers.ensures.rest others.ensures.rest c.if-front-other_front.true
