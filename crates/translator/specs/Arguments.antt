-- The table of replacements that the options on the command line give.
use Rattle.std.specs.Prelude.{◌≡◌, ◌++◌, ◌∷◌, [], Bool, List, Ok, codes, if◌then◌else◌, unwrap_or}
use Rattle.std.specs.List.{flat_map}
use Rattle.std.specs.Option.{option_map}
use Rattle.clap.specs.Words.{Text, found_of, matched_of, raw_values}
use Rattle.clap.specs.declared.parser.matches.ArgMatches.{ArgMatches}
use Rattle.translator.specs.ReplacementTexts.{ReadsNetworkReplacement, ReadsPortReplacement}
use Rattle.translator.specs.declared.replacements.NetworkReplacement.{NetworkReplacement}
use Rattle.translator.specs.declared.replacements.PortReplacement.{PortReplacement}
use Rattle.translator.specs.declared.replacements.Replacements.{Replacements}
use Rattle.translator.specs.declared.table.Table.{Table}

-- the values of an option, in the order of the words; there are none if the option does not occur
abbrev pub values_of : ArgMatches → Text → List Text
values_of matches id = unwrap_or (option_map raw_values (matched_of (found_of matches) id)) []

-- ---- values as replacements

-- each of these values is read as the item at the same place
abbrev pub AreRead : {X : Type 0} → (Text → X → Type 0) → List Text → List X → Type 0
AreRead Reads [] [] = Unit {0}
AreRead Reads [] (item ∷ items) = ⊥
AreRead Reads (value ∷ values) [] = ⊥
AreRead Reads (value ∷ values) (item ∷ items) = Reads value item × AreRead Reads values items

-- the value is a replacement of a network, with whether its networks are IPv6 networks
abbrev pub IsNetworks : Text → NetworkReplacement × Bool → Type 0
IsNetworks value read = ReadsNetworkReplacement value (Ok read)

-- the value is a replacement of a port
abbrev pub IsPorts : Text → PortReplacement → Type 0
IsPorts value read = ReadsPortReplacement value (Ok read)

-- the replacement if it is one of IPv4 networks, and otherwise nothing
abbrev pub of_ipv4 : NetworkReplacement × Bool → List NetworkReplacement
of_ipv4 read = if read.1 then [] else read.0 ∷ []

-- the replacement if it is one of IPv6 networks, and otherwise nothing
abbrev pub of_ipv6 : NetworkReplacement × Bool → List NetworkReplacement
of_ipv6 read = if read.1 then read.0 ∷ [] else []

-- the replacements for one side of packets are those of these values, in their order
pub record AreReplacements (networks ports : List Text) (replacements : Replacements) : Type 0 where
  pub read : List (NetworkReplacement × Bool)
  pub are_read : AreRead IsNetworks networks read
  pub ipv4 : replacements.ipv4.items ≡ flat_map of_ipv4 read
  pub ipv6 : replacements.ipv6.items ≡ flat_map of_ipv6 read
  pub are_ports : AreRead IsPorts ports replacements.ports.items

-- ---- the table

-- The table of replacements that the options give. The option `both` stands for `source` and `destination` with the same value. Its values
-- come after the values of these two options.
pub record IsTableOf (matches : ArgMatches) (table : Table) : Type 0 where
  pub source : AreReplacements (values_of matches (codes "source") ++ values_of matches (codes "both"))
      (values_of matches (codes "source-port")) table.source
  pub destination : AreReplacements (values_of matches (codes "destination") ++ values_of matches (codes "both"))
      (values_of matches (codes "destination-port")) table.destination

-- ---- replacements that are added

-- the replacement was added at the end of the list for its IP version
pub record AddsOne (read : NetworkReplacement × Bool) (before after : Replacements) : Type 0 where
  pub ipv4 : after.ipv4.items ≡ before.ipv4.items ++ of_ipv4 read
  pub ipv6 : after.ipv6.items ≡ before.ipv6.items ++ of_ipv6 read
  pub ports : after.ports.items ≡ before.ports.items

-- the replacements of networks that these values are were added, in their order
pub record AddsNetworks (values : List Text) (before after : Replacements) : Type 0 where
  pub read : List (NetworkReplacement × Bool)
  pub are_read : AreRead IsNetworks values read
  pub ipv4 : after.ipv4.items ≡ before.ipv4.items ++ flat_map of_ipv4 read
  pub ipv6 : after.ipv6.items ≡ before.ipv6.items ++ flat_map of_ipv6 read
  pub ports : after.ports.items ≡ before.ports.items

-- the replacements of ports that these values are were added, in their order
pub record AddsPorts (values : List Text) (before after : Replacements) : Type 0 where
  pub read : List PortReplacement
  pub are_read : AreRead IsPorts values read
  pub ipv4 : after.ipv4.items ≡ before.ipv4.items
  pub ipv6 : after.ipv6.items ≡ before.ipv6.items
  pub ports : after.ports.items ≡ before.ports.items ++ read
