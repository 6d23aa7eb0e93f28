use Rattle.std.proofs.Common.{take}
use Rattle.ip_translation.specs.Prefixes.{without_reserved}
use Rattle.ip_translation.proofs.OctetLemmas.{bytes_without_reserved, compared_as_numbers, eleven_without_reserved}
use Rattle.ip_translation.proofs.prefix64.is_front_96.Goals as goal

pub returns-then-front-start_front : goal.returns-then-front-start_front
returns-then-front-start_front c =
    let numbers = c.numbers_before_ipv4-front in
    let others = c.numbers_of-start_front in
    compared_as_numbers (take 11 (without_reserved c.args.address.now)) c.args.start.now numbers.result.0 others.result.0
    numbers.result.1 others.result.1
    (eleven_without_reserved c.args.address.now c.told-address) c.told-start
    (bytes_without_reserved c.args.address.now c.told-address c.fits-address) c.fits-start
    numbers.ensures.front others.ensures.front numbers.ensures.rest others.ensures.rest c.if-front-start_front.true
