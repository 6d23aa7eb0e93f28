-- The packets that the matches of a command line choose.
use Rattle.std.specs.Prelude.{◌≡◌, ◌≢◌, ◌⊎◌, ◌<◌, ◌≤◌, ◌==◌, ℕ, Bool, nat_lt, if◌then◌else◌, List, [], ◌∷◌, ◌++◌, codes, decimal, length, None, Ok, Option, Err, Some}
use Rattle.std.specs.List.{after_first, before_first, flat_map, position_or_len, slice_split}
use Rattle.clap.specs.Words.{first_value, found_of}
use Rattle.clap.specs.declared.parser.matches.ArgMatches.{ArgMatches}
use Rattle.capture_summary.specs.Networks.{ReadsNetwork, network_error_text}
use Rattle.capture_summary.specs.declared.choice.Choice.{Choice}
use Rattle.capture_summary.specs.declared.choice.ChosenProtocol.{ChosenProtocol}
use Rattle.capture_summary.specs.declared.choice.PortRange.{PortRange}
use Rattle.capture_summary.specs.declared.network.Network.{Network}
use Rattle.capture_summary.specs.declared.time_range.TimeRange.{TimeRange}
use Rattle.capture_arguments.specs.Arguments.{HasFlag, IsNumberText, values_of}
use Rattle.capture_arguments.specs.DateTimes.{IsNoDateTime, ReadsDateTime}
use Rattle.capture_arguments.specs.ProtocolNames.{Names, protocol_rows}
use Rattle.capture_arguments.specs.declared.chosen.ChoiceError.{ChoiceError}
use Rattle.capture_arguments.specs.declared.chosen.ChoiceError.TheVariants.{Host, Port, Protocol, Time, TooMany}

-- ---- values in places

-- all places are empty
abbrev pub AreEmpty : {X : Type 0} → List (Option X) → Type 0
AreEmpty [] = Unit {0}
AreEmpty (None ∷ places) = AreEmpty places
AreEmpty (Some value ∷ places) = ⊥

-- the first places contain the values of these texts, in their order, and the other places are empty
abbrev pub ReadsPlaces : {X : Type 0} → (List ℕ → X → Type 0) → List (List ℕ) → List (Option X) → Type 0
ReadsPlaces Reads [] places = AreEmpty places
ReadsPlaces Reads (text ∷ texts) [] = ⊥
ReadsPlaces Reads (text ∷ texts) (None ∷ places) = ⊥
ReadsPlaces Reads (text ∷ texts) (Some value ∷ places) = Reads text value × ReadsPlaces Reads texts places

-- the values of these texts; `None` if there are no texts
abbrev pub AreRead : {X : Type 0} → (List ℕ → X → Type 0) → List (List ℕ) → Option (List (Option X)) → Type 0
AreRead Reads texts None = texts ≡ []
AreRead Reads texts (Some places) = (texts ≢ []) × ReadsPlaces Reads texts places

-- the text is this address or network
abbrev pub ReadsHost : List ℕ → Network → Type 0
ReadsHost text host = ReadsNetwork text (Ok host)

-- the text is this port
abbrev pub ReadsPort : List ℕ → ℕ → Type 0
ReadsPort text port = IsNumberText 16 text port

-- the two texts are the first and the last port of this range
abbrev pub ReadsBounds : List ℕ → List ℕ → PortRange → Type 0
ReadsBounds first last range = ReadsPort first range.first × (ReadsPort last range.last × (range.first ≤ range.last))

-- a byte is `-` (45)
abbrev pub is_dash : ℕ → Bool
is_dash byte = byte == 45

-- the text contains `-`
abbrev pub has_dash : List ℕ → Bool
has_dash text = nat_lt (position_or_len is_dash text) (length text)

-- the texts before and after the first `-`, if there is one
abbrev pub bounds_in : List ℕ → Option (List ℕ × List ℕ)
bounds_in text = if has_dash text then Some (before_first is_dash text, after_first is_dash text) else None

-- the text is a port, and the range contains only this port
abbrev pub IsSingle : List ℕ → PortRange → Type 0
IsSingle text range = ReadsPort text range.first × (range.last ≡ range.first)

-- The text is a range of ports. If the text has two bounds, they are the first and the last port of the range. Otherwise the text is the
-- only port of the range.
abbrev pub IsRangeBy : List ℕ → Option (List ℕ × List ℕ) → PortRange → Type 0
IsRangeBy text None range = IsSingle text range
IsRangeBy text (Some bounds) range = ReadsBounds bounds.0 bounds.1 range

-- the text is a range of ports, such as `80` or `8000-8100`
abbrev pub ReadsRange : List ℕ → PortRange → Type 0
ReadsRange text range = IsRangeBy text (bounds_in text) range

-- a byte is a comma (44)
abbrev pub is_comma : ℕ → Bool
is_comma byte = byte == 44

-- the items of a list that are separated by commas
abbrev pub list_items : List ℕ → List (List ℕ)
list_items list = slice_split is_comma list

-- the items of all values of an option, in their order
abbrev pub items_in : ArgMatches → List ℕ → List (List ℕ)
items_in matches id = flat_map list_items (values_of matches id)

-- the text is the name of a protocol
abbrev pub ReadsProtocol : List ℕ → ChosenProtocol → Type 0
ReadsProtocol text protocol = Names protocol_rows text (Some protocol)

-- ---- the choice

-- the choice contains the hosts that these matches give
pub record HasAddressesOf (matches : ArgMatches) (choice : Choice) : Type 0 where
  pub hosts : AreRead ReadsHost (values_of matches (codes "host")) choice.hosts
  pub sources : AreRead ReadsHost (values_of matches (codes "source")) choice.sources
  pub destinations : AreRead ReadsHost (values_of matches (codes "destination")) choice.destinations
  pub other_hosts : AreRead ReadsHost (values_of matches (codes "not-host")) choice.other_hosts

-- the time with this text; `None` if there is no text
abbrev pub IsTimeOf : Option (List ℕ) → Option ℕ → Type 0
IsTimeOf None time = time ≡ None
IsTimeOf (Some text) None = ⊥
IsTimeOf (Some text) (Some time) = ReadsDateTime text time

-- the range of times has the beginning and the end that these matches give
pub record HasTimesOf (matches : ArgMatches) (range : TimeRange) : Type 0 where
  pub from : IsTimeOf (first_value (found_of matches) (codes "from")) range.from
  pub to : IsTimeOf (first_value (found_of matches) (codes "to")) range.to

-- the choice contains the hosts, ports, protocols and times that these matches give, and opens tunnels in UDP if they request it
pub record IsChoiceOf (matches : ArgMatches) (choice : Choice) : Type 0 where
  pub addresses : HasAddressesOf matches choice
  pub ports : AreRead ReadsRange (items_in matches (codes "port")) choice.ports
  pub other_ports : AreRead ReadsRange (items_in matches (codes "not-port")) choice.other_ports
  pub protocols : AreRead ReadsProtocol (values_of matches (codes "protocol")) choice.protocols
  pub udp_tunnels : (flag : Bool) → HasFlag matches (codes "tunnels") flag → choice.udp_tunnels ≡ flag
  pub times : HasTimesOf matches choice.time_range

-- ---- refusals

-- `wrong` is the first of these texts that has no value. `Reads` relates a text to its value, and `IsWrong` holds for `wrong`.
pub record IsFirstWrong {X : Type 0} (Reads : List ℕ → X → Type 0) (IsWrong : List ℕ → Type 0) (texts : List (List ℕ)) (wrong : List ℕ) : Type 0 where
  pub before : List (List ℕ)
  pub after : List (List ℕ)
  pub values : List (Option X)
  pub is_among : texts ≡ before ++ wrong ∷ after
  pub are_read : ReadsPlaces Reads before values
  pub is_wrong : IsWrong wrong

-- the text is not a port
abbrev pub IsNoPort : List ℕ → Type 0
IsNoPort text = (port : ℕ) → ¬ (ReadsPort text port)

-- the text is not a single port
abbrev pub IsNoSingle : List ℕ → Type 0
IsNoSingle text = (range : PortRange) → ¬ (IsSingle text range)

-- the two texts are not the bounds of a range
abbrev pub AreNoBounds : List ℕ → List ℕ → Type 0
AreNoBounds first last = (range : PortRange) → ¬ (ReadsBounds first last range)

-- the text is neither a port nor a range of ports
abbrev pub IsNoRange : List ℕ → Type 0
IsNoRange text = (range : PortRange) → ¬ (ReadsRange text range)

-- the text is not the name of a protocol
abbrev pub IsNoProtocol : List ℕ → Type 0
IsNoProtocol text = Names protocol_rows text None

-- Why these texts are not accepted as the hosts of this option. There are more than 16 texts, or the error contains the first text that is
-- not a host.
abbrev pub AreNoHosts : List ℕ → List (List ℕ) → ChoiceError → Type 0
AreNoHosts option texts (TooMany name) = (name.now ≡ option) × (16 < length texts)
AreNoHosts option texts (Host name text error) =
    (name.now ≡ option) × ((length texts ≤ 16) × IsFirstWrong ReadsHost (λ wrong. ReadsNetwork wrong (Err error)) texts text.now)
AreNoHosts option texts (Port name text) = ⊥
AreNoHosts option texts (Protocol text) = ⊥
AreNoHosts option texts (Time name text) = ⊥

-- Why these texts are not accepted as the ports of this option. There are more than 16 texts, or the error contains the first text that is
-- neither a port nor a range.
abbrev pub AreNoPorts : List ℕ → List (List ℕ) → ChoiceError → Type 0
AreNoPorts option texts (TooMany name) = (name.now ≡ option) × (16 < length texts)
AreNoPorts option texts (Host name text error) = ⊥
AreNoPorts option texts (Port name text) = (name.now ≡ option) × ((length texts ≤ 16) × IsFirstWrong ReadsRange IsNoRange texts text.now)
AreNoPorts option texts (Protocol text) = ⊥
AreNoPorts option texts (Time name text) = ⊥

-- Why these texts are not accepted as the names of protocols. There are more than 16 texts, or the error contains the first text that is
-- not a name.
abbrev pub AreNoProtocols : List (List ℕ) → ChoiceError → Type 0
AreNoProtocols texts (TooMany name) = (name.now ≡ codes "protocol") × (16 < length texts)
AreNoProtocols texts (Host name text error) = ⊥
AreNoProtocols texts (Port name text) = ⊥
AreNoProtocols texts (Protocol text) = (length texts ≤ 16) × IsFirstWrong ReadsProtocol IsNoProtocol texts text.now
AreNoProtocols texts (Time name text) = ⊥

-- the text of this option is not a date and time
abbrev pub IsNoTime : List ℕ → Option (List ℕ) → ChoiceError → Type 0
IsNoTime option given (TooMany name) = ⊥
IsNoTime option given (Host name text error) = ⊥
IsNoTime option given (Port name text) = ⊥
IsNoTime option given (Protocol text) = ⊥
IsNoTime option given (Time name text) = (name.now ≡ option) × ((given ≡ Some text.now) × IsNoDateTime text.now)

-- the option is not given, or its text is a date and time
abbrev pub HasTime : Option (List ℕ) → Type 0
HasTime given = (time : Option ℕ) × IsTimeOf given time

-- the error is about the first of the options `from` and `to` whose text is not a date and time
abbrev pub AreNoTimes : ArgMatches → ChoiceError → Type 0
AreNoTimes matches error =
    IsNoTime (codes "from") (first_value (found_of matches) (codes "from")) error
    ⊎ (HasTime (first_value (found_of matches) (codes "from"))
    × IsNoTime (codes "to") (first_value (found_of matches) (codes "to")) error)

-- there are at most 16 texts, and `Reads` relates each of them to a value
abbrev pub AreFew : {X : Type 0} → (List ℕ → X → Type 0) → List (List ℕ) → Type 0
AreFew {X} Reads texts = (length texts ≤ 16) × ((values : Option (List (Option X))) × AreRead Reads texts values)

-- each option for hosts has at most 16 values, and each value is a host
abbrev pub HaveAddresses : ArgMatches → Type 0
HaveAddresses matches =
    AreFew ReadsHost (values_of matches (codes "host")) × (AreFew ReadsHost (values_of matches (codes "source"))
    × (AreFew ReadsHost (values_of matches (codes "destination")) × AreFew ReadsHost (values_of matches (codes "not-host"))))

-- the error is about the first option for hosts whose values are not accepted
abbrev pub AreNoAddresses : ArgMatches → ChoiceError → Type 0
AreNoAddresses matches error =
    AreNoHosts (codes "host") (values_of matches (codes "host")) error
    ⊎ (AreFew ReadsHost (values_of matches (codes "host")) × (AreNoHosts (codes "source") (values_of matches (codes "source")) error
    ⊎ (AreFew ReadsHost (values_of matches (codes "source"))
    × (AreNoHosts (codes "destination") (values_of matches (codes "destination")) error
    ⊎ (AreFew ReadsHost (values_of matches (codes "destination"))
    × AreNoHosts (codes "not-host") (values_of matches (codes "not-host")) error)))))

-- Why these matches contain no valid choice of packets. The error is about the first option whose values are not accepted. The options for
-- hosts are tested first, then the options for ports, then the option for protocols, and then the options for times.
abbrev pub IsRefusal : ArgMatches → ChoiceError → Type 0
IsRefusal matches error =
    AreNoAddresses matches error
    ⊎ (HaveAddresses matches × (AreNoPorts (codes "port") (items_in matches (codes "port")) error
    ⊎ (AreFew ReadsRange (items_in matches (codes "port")) × (AreNoPorts (codes "not-port") (items_in matches (codes "not-port")) error
    ⊎ (AreFew ReadsRange (items_in matches (codes "not-port")) × (AreNoProtocols (values_of matches (codes "protocol")) error
    ⊎ (AreFew ReadsProtocol (values_of matches (codes "protocol")) × AreNoTimes matches error)))))))

-- ---- the message

-- the part of a message that names an option; `value` is the text after the name of the option
abbrev pub of_option : List ℕ → List ℕ → List ℕ
of_option name value = codes "' for '--" ++ (name ++ value)

-- the message about a wrong choice of packets
abbrev pub choice_text : ChoiceError → List ℕ
choice_text (Host name text error) =
    codes "invalid value '" ++ (text.now ++ of_option name.now (codes " <ADDRESS>': " ++ network_error_text error))
choice_text (Port name text) =
    codes "invalid value '" ++ (text.now
    ++ of_option name.now (codes " <N>': not a number from 0 to 65535, and no range such as 8000-8100"))
choice_text (Protocol text) =
    codes "invalid value '" ++ (text.now
    ++ codes "' for '--protocol <NAME>': not the name of a protocol in the table `protocol` of the summary")
choice_text (Time name text) =
    codes "invalid value '" ++ (text.now
    ++ of_option name.now (codes " <TIME>': not a date and time such as 2023-11-14T22:13:20Z"))
choice_text (TooMany name) = codes "'--" ++ (name.now ++ (codes "' is given more than " ++ (decimal 16 ++ codes " values")))
