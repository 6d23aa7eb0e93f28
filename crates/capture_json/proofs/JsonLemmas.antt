-- Members and items of packets that are written in order.
use Rattle.std.proofs.Common.{◌≡◌, ◌<◌, ◌+◌, ◌∙◌, ◌∷◌, [], ℕ, List, ◌++◌, OnOk, Result, ap, get_or, length, map, None, Some, sym, take, true, true≢false}
use Rattle.std.proofs.lemmas.List.{flat_map_more, map-append, map_more, take_more}
use Rattle.std.proofs.lemmas.Result.{on_ok_weaker}
use Rattle.std.specs.List.{flat_map}
use Rattle.json.specs.Token.{Token}
use Rattle.capture_json.specs.Members.{Member}
use Rattle.capture_json.specs.Tokens.{PutsOne, push, with_items, with_members}
use Rattle.serde_json.specs.Data.{Data, string}
use Rattle.ip_part.specs.Addresses.{Addresses, Ipv4, Ipv6}
use Rattle.capture_packet.specs.Addresses.{destination_text}
use Rattle.capture_packet.specs.Addresses.{has_destination}
use Rattle.capture_words.specs.Flags.{NamedFlag}
use Rattle.capture_json.specs.JsonPacket.{destination_data, name_if_set, names_of_set}
use Rattle.capture_json.proofs.TokensLemmas.{items_append}

-- the items after more texts are written
pub more_texts : (texts more : List (List ℕ)) (before between after : List Token) → between ≡ with_items (map string texts) before
    → after ≡ with_items (map string more) between → after ≡ with_items (map string (texts ++ more)) before
more_texts texts more before between after is_first is_second =
    is_second ∙ ap (with_items (map string more)) is_first ∙ sym (items_append (map string texts) (map string more) before)
    ∙ sym (ap (λ items. with_items items before) (map-append string texts more))

-- the items after another item
pub one_more_item : (values : List Data) (value : Data) (before between after : List Token) → between ≡ with_items values before
    → after ≡ push value between → after ≡ with_items (values ++ value ∷ []) before
one_more_item values value before between after is_first is_second =
    is_second ∙ ap (push value) is_first ∙ sym (items_append values (value ∷ []) before)

-- the items of elements and of another element, each of which is one item
pub one_more_of : {X : Type 0} (xs : List X) (item : X → Data) (i : ℕ) (d : X) (before between after : List Token) → i < length xs
    → between ≡ with_items (map item (take i xs)) before → after ≡ push (item (get_or xs i d)) between
    → after ≡ with_items (map item (take (i + 1) xs)) before
one_more_of xs item i d before between after below is_first is_second =
    one_more_item (map item (take i xs)) (item (get_or xs i d)) before between after is_first is_second
    ∙ sym (ap (λ items. with_items items before) (map_more item xs i d below))

-- the items after more items are written
more_items : (values more : List Data) (before between after : List Token) → between ≡ with_items values before
    → after ≡ with_items more between → after ≡ with_items (values ++ more) before
more_items values more before between after is_first is_second =
    is_second ∙ ap (with_items more) is_first ∙ sym (items_append values more before)

-- the items of elements and of another element
pub items_more : {X : Type 0} (xs : List X) (items : X → List Data) (i : ℕ) (d : X) (before between after : List Token) → i < length xs
    → between ≡ with_items (flat_map items (take i xs)) before → after ≡ with_items (items (get_or xs i d)) between
    → after ≡ with_items (flat_map items (take (i + 1) xs)) before
items_more xs items i d before between after below is_first is_second =
    more_items (flat_map items (take i xs)) (items (get_or xs i d)) before between after is_first is_second
    ∙ ap (λ values. with_items values before)
    (flat_map_more items [] (take i xs) (get_or xs i d) ∙ ap (flat_map items) (sym (take_more xs i d below)))

-- the names of flags and of another flag
pub names_more : {X : Type 0} (flags : List X) (named : X → NamedFlag) (i : ℕ) (d : X) (before between after : List Token)
    → i < length flags
    → between ≡ with_items (map string (names_of_set named (take i flags))) before
    → after ≡ with_items (map string (name_if_set (named (get_or flags i d)))) between
    → after ≡ with_items (map string (names_of_set named (take (i + 1) flags))) before
names_more flags named i d before between after below is_first is_second =
    more_texts (names_of_set named (take i flags)) (name_if_set (named (get_or flags i d))) before between after is_first is_second
    ∙ ap (λ names. with_items (map string names) before)
    (flat_map_more (λ flag. name_if_set (named flag)) [] (take i flags) (get_or flags i d)
    ∙ ap (names_of_set named) (sym (take_more flags i d below)))

-- these members were written
pub puts_these : {T E : Type 0} (result : Result T E) (members : List Member) (before after : List Token) (Are : List Member → Type 0)
    → Are members → OnOk result (after ≡ with_members members before) → OnOk result (PutsOne Are before after)
puts_these result members before after Are are = on_ok_weaker result (λ put. (members, are, put))

-- the text of a known destination
pub known_destination : (addresses : Addresses) (text : List ℕ) → has_destination addresses ≡ true → text ≡ destination_text addresses
    → string text ≡ destination_data addresses
known_destination (Ipv4 source destination) text known is = ap string is
known_destination (Ipv6 source (Some destination)) text known is = ap string is
known_destination (Ipv6 source None) text known is = absurd (true≢false (sym known))
