-- A worked example of a command line, from its words to the options that they request, so that a wrong definition fails before any code
-- does.
use Rattle.std.proofs.Common.{Global, Vec, ◌≡◌, ◌≢◌, ◌∙◌, ◌++◌, ◌||◌, ℕ, Bool, true, false, not, List, [], ◌∷◌, None, Some, ap, ap₂, arith, codes, if◌then◌else◌, inl, inr, length, length-take, map, refl, replicate, slice_index, subst, sym, take, unwrap_or}
use Rattle.std.specs.Borrow.{Bor}
use Rattle.std.specs.List.{flat_map}
use Rattle.std.specs.Option.{option_map}
use Rattle.std.specs.Ptr.{null_ptr}
use Rattle.std.specs.Char.{encode_utf8}
use Rattle.std.specs.Str.{chars, is_utf8}
use Rattle.std.specs.Str.Parse.{digits_value, without_leading_plus}
use Rattle.clap.specs.Facts.{Entry}
use Rattle.clap.specs.Faults.{defaults_fault, flags_fault, walk_fault}
use Rattle.clap.specs.Walk.{Row, bundle_met, walked}
use Rattle.clap.specs.Words.{App, Text, fault_of as faults_of, first_value, found_of, matched_of, matches_of, one_text, raw_values, rows_of}
use Rattle.clap.specs.declared.parser.matches.ArgMatches.{ArgMatches}
use Rattle.clap.specs.declared.parser.matches.ArgMatches.TheViews.{out-roll-ArgMatches, roll-ArgMatches}
use Rattle.clap.specs.declared.builder.value_parser.Reading.TheVariants.{AsWritten}
use Rattle.clap.specs.declared.parser.matches.Found.{Found}
use Rattle.clap.specs.declared.parser.matches.ValueSource.TheVariants.{CommandLine, DefaultValue}
use Rattle.capture_request.specs.Lines.{lines_by}
use Rattle.capture_request.specs.declared.parts.Format.TheVariants.{Json, Text as AsText}
use Rattle.capture_request.specs.declared.parts.Lines.TheVariants.{All}
use Rattle.capture_summary.specs.declared.protocol.Protocol.TheVariants.{Tcp}
use Rattle.capture_summary.specs.Choice.{every_packet}
use Rattle.capture_summary.specs.declared.choice.ChosenProtocol.TheVariants.{One}
use Rattle.capture_summary.specs.declared.choice.PortRange.{PortRange}
use Rattle.capture_words.specs.TimeText.{times_by}
use Rattle.capture_words.specs.declared.times.Times.TheVariants.{SinceFirst}
use Rattle.capture_arguments.specs.Arguments.{HasFlag, flag_text, values_of}
use Rattle.capture_arguments.specs.Chosen.{AreRead, IsTimeOf, ReadsProtocol, ReadsRange, list_items}
use Rattle.capture_arguments.specs.CommandLine.{AreMatchesOf, AreRequestedBy, command_line}
use Rattle.capture_arguments.specs.Conflicts.{conflict_in}
use Rattle.capture_arguments.specs.Intervals.{IsIntervalOf}
use Rattle.capture_arguments.specs.Options.{IsOptionsOf}
use Rattle.capture_arguments.specs.ProtocolNames.{protocol_rows}
use Rattle.capture_arguments.specs.Words.{escaped_option, escaped_option_text, is_escaped_option, word_of}
use Rattle.capture_arguments.specs.declared.arguments.Options.{Options}

-- ---- words and options

words : List Text
words =
    codes "capture_report" ∷ codes "-vv" ∷ codes "--json" ∷ codes "--json" ∷ codes "--port" ∷ codes "53,80-90" ∷ codes "--protocol"
    ∷ codes "TCP" ∷ codes "-c" ∷ codes "5"
    ∷ codes "a.pcap" ∷ []

-- a reference to a value
abbrev reference_to : {X : Type 0} → X → Bor X
reference_to value = record { ref_ptr = (0, 0); now = value }

-- a vector of at most 64 items
abbrev vec_of : {X : Type 0} → List X → Vec X Global
vec_of items = record {
  ptr = null_ptr;
  len = length (take 64 items);
  cap = 64;
  alloc = record { memory = record { seal = tt } };
  items = take 64 items;
  ok = (refl, omega (arith, length-take 64 items));
  small = omega arith;
}

-- the ports from one to another
abbrev range : ℕ → ℕ → PortRange
range first last = record { first = first; last = last }

-- the requested options, and the defaults of the others: all lines and the summary, the times since the first packet, ten conversations
abbrev options : Options
options = record {
  parts = record {
    choice = record every_packet {
      ports = Some (Some (range 53 53) ∷ Some (range 80 90) ∷ replicate 14 None);
      protocols = Some (Some (One Tcp) ∷ replicate 15 None);
    };
    lines = All;
    times = SinceFirst;
    verbose = true;
    summary = true;
    format = Json;
    top = 10;
    timeline = false;
    interval = None;
    check = false;
    limit = Some 5;
  };
  line_buffered = false;
  write = None;
  files = vec_of (reference_to (codes "a.pcap") ∷ []);
}

-- ---- the matches of the words

abbrev app : App
app = command_line

fits : faults_of app words ≡ []
unfolding bundle_met chars defaults_fault encode_utf8 flags_fault walk_fault walked words
fits = refl

-- a value that the words contain, and a flag that they do not contain
abbrev given : Text → Text → Row
given id value = record { id = id; values = value ∷ []; count = None; source = Some CommandLine; reading = AsWritten }

abbrev not_given : Text → Row
not_given id = record { id = id; values = codes "false" ∷ []; count = None; source = Some DefaultValue; reading = AsWritten }

-- what is found in the words: the values in their order, and then the other flags in the order of the options
abbrev rows : List Row
rows =
    given (codes "verbose") (codes "true") ∷ given (codes "json") (codes "true")
    ∷ given (codes "port") (codes "53,80-90") ∷ given (codes "protocol") (codes "TCP")
    ∷ given (codes "count") (codes "5") ∷ given (codes "file") (codes "a.pcap") ∷ not_given (codes "summary") ∷ not_given (codes "packets")
    ∷ not_given (codes "wrong") ∷ not_given (codes "absolute") ∷ not_given (codes "check") ∷ not_given (codes "timeline")
    ∷ not_given (codes "tunnels") ∷ not_given (codes "line-buffered")
    ∷ not_given (codes "numeric") ∷ []

are_rows : rows ≡ matches_of app words
unfolding bundle_met chars encode_utf8 walked words
are_rows = refl

-- a row with references to its texts
abbrev entry_of : Row → Entry
entry_of row = (
  reference_to row.id,
  record {
    source = row.source;
    indices = vec_of [];
    vals = vec_of (map reference_to row.values);
    starts = vec_of [];
    count = row.count;
    ignore_case = false;
    is_group = false;
    reading = row.reading;
  },
)

abbrev found : Found
found = record { entries = vec_of (map entry_of rows) }

abbrev matches : ArgMatches
matches = roll-ArgMatches (record { found = found; subcommand = None })

are_found : found_of matches ≡ found
are_found = ap (λ fields. fields.found) (out-roll-ArgMatches _)

are_matches : AreMatchesOf words matches
are_matches = (app, refl, fits, ap rows_of are_found ∙ are_rows)

-- ---- the options in these matches

one_flag : (value flag : Bool) → Some (flag_text value) ≡ Some (flag_text flag) → value ≡ flag
one_flag true true same = refl
one_flag true false same = absurd (cc same)
one_flag false true same = absurd (cc same)
one_flag false false same = refl

-- the flag with this name has this value in what was found
flag_is : (id : Text) (value flag : Bool) → one_text found id ≡ Some (flag_text value) → HasFlag matches id flag → value ≡ flag
flag_is id value flag one has = one_flag value flag (sym one ∙ sym (ap (λ found. one_text found id) are_found) ∙ has)

-- the values of an argument are what was found for it
values : (id : Text) → values_of matches id ≡ unwrap_or (option_map raw_values (matched_of found id)) []
values id = ap (λ found. unwrap_or (option_map raw_values (matched_of found id)) []) are_found

-- the ports in the list
are_ports : AreRead ReadsRange (flat_map list_items (codes "53,80-90" ∷ [])) options.parts.choice.ports
are_ports = (
  λ none. absurd (cc none),
  (
    (((omega arith, (omega arith, (omega arith, tt))), refl, omega arith), refl),
    (
      (
        ((omega arith, (omega arith, (omega arith, tt))), refl, omega arith),
        (((omega arith, (omega arith, (omega arith, tt))), refl, omega arith), omega arith),
      ),
      tt,
    ),
  ),
)

-- these names differ in their first letters
other_name : {first second : Text} → slice_index first 0 ≢ slice_index second 0 → first ≡ second → ⊥
other_name letters same = letters (ap (λ text. slice_index text 0) same)

-- `icmp` and `udp` are other names than `TCP`
is_tcp : ReadsProtocol (codes "TCP") (One Tcp)
unfolding protocol_rows
is_tcp =
    inr (
      other_name (λ letter. absurd (omega (arith, letter))),
      inr (other_name (λ letter. absurd (omega (arith, letter))), inl (refl, refl)),
    )

are_options : IsOptionsOf matches options
are_options = record {
  compatible = ap (λ found. conflict_in (rows_of found)) are_found;
  lines = λ summary wrong has_summary has_wrong.
      ap₂ lines_by (flag_is (codes "summary") false summary refl has_summary) (flag_is (codes "wrong") false wrong refl has_wrong);
  times = λ absolute has. ap times_by (flag_is (codes "absolute") false absolute refl has);
  verbose = λ flag has. flag_is (codes "verbose") true flag refl has;
  summary = λ packets has. ap not (flag_is (codes "packets") false packets refl has);
  check = λ flag has. flag_is (codes "check") false flag refl has;
  format = λ flag has. ap (λ flag. if flag then Json else AsText) (flag_is (codes "json") true flag refl has);
  top = (λ none. refl, λ text given has number. absurd (cc (sym (ap (λ found. one_text found (codes "top")) are_found) ∙ has)));
  timeline = λ flag has. ap (λ flag. flag || false) (flag_is (codes "timeline") false flag refl has);
  interval = subst (λ text. IsIntervalOf text None) (sym (ap (λ found. first_value found (codes "interval")) are_found)) refl;
  choice = record {
    addresses = record {
      hosts = values (codes "host");
      sources = values (codes "source");
      destinations = values (codes "destination");
      other_hosts = values (codes "not-host");
    };
    ports = subst (λ texts. AreRead ReadsRange (flat_map list_items texts) options.parts.choice.ports)
        (sym (values (codes "port"))) are_ports;
    other_ports = ap (flat_map list_items) (values (codes "not-port"));
    protocols = subst (λ names. AreRead ReadsProtocol names options.parts.choice.protocols) (sym (values (codes "protocol")))
        (λ none. absurd (cc none), (is_tcp, tt));
    udp_tunnels = λ flag has. flag_is (codes "tunnels") false flag refl has;
    times = record {
      from = subst (λ found. IsTimeOf (first_value found (codes "from")) None) (sym are_found) refl;
      to = subst (λ found. IsTimeOf (first_value found (codes "to")) None) (sym are_found) refl;
    };
  };
  limit = (
    λ none. absurd (cc (sym (ap (λ found. one_text found (codes "count")) are_found) ∙ none)),
    λ text given has number. ap Some (
        ap (λ one. digits_value 10 (without_leading_plus (unwrap_or one [])))
        (sym (ap (λ found. one_text found (codes "count")) are_found) ∙ has)
        ∙ number.1
        ),
  );
  line_buffered = λ flag has. flag_is (codes "line-buffered") false flag refl has;
  write = sym (ap (λ found. first_value found (codes "write")) are_found);
  files = sym (ap₂ ◌++◌ (values (codes "read")) (values (codes "file")));
}

are_requested : AreRequestedBy words options
unfolding words
are_requested = (matches, (are_matches, refl), are_options)

-- ---- an option that is not UTF-8

-- an argument that begins with `-`, and contains a byte that no text in UTF-8 contains
is_escaped : is_escaped_option (word_of (codes "--host=10.0.0.1" ++ 255 ∷ [])) ≡ true
unfolding chars encode_utf8 is_utf8
is_escaped = refl

-- the second argument is an escaped option, but not after `--`
is_option : escaped_option (codes "capture_report" ∷ (0 ∷ codes "--host=\\xFF") ∷ codes "a.pcap" ∷ []) ≡ Some (0 ∷ codes "--host=\\xFF")
is_option = refl

is_file : escaped_option (codes "capture_report" ∷ codes "--" ∷ (0 ∷ codes "--host=\\xFF") ∷ []) ≡ None
is_file = refl

option_text : escaped_option_text (0 ∷ codes "--host=\\xFF") ≡ codes "the argument '--host=\\xFF' is not UTF-8"
option_text = refl
