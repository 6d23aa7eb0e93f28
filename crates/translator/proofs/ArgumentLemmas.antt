-- For the arguments of the command line.
use Rattle.std.proofs.Common.{◌≡◌, ◌∙◌, ◌++◌, ◌∷◌, [], ◌<◌, ◌+◌, ℕ, Bool, List, None, Option, Some, ap, append-nil, append_assoc, false, get_or, length, map, refl, subst, sym, take, true}
use Rattle.std.proofs.lemmas.List.{map-append, take_more}
use Rattle.std.proofs.lemmas.List.Concat.{flat_map-append}
use Rattle.std.specs.Borrow.{Bor}
use Rattle.std.specs.List.{flat_map}
use Rattle.std.specs.Option.{option_map, option_or}
use Rattle.clap.specs.Words.{AddsArg, App, HasMatchesOf, Rule, Text, app_of, fault_of, is_simple, is_simple_and_free, rule_of, with_rule}
use Rattle.clap.specs.declared.builder.arg.Arg.{Arg}
use Rattle.clap.specs.declared.builder.command.Command.{Command}
use Rattle.clap.specs.declared.parser.matches.ArgMatches.{ArgMatches}
use Rattle.translator.specs.Arguments.{AddsNetworks, AddsOne, AddsPorts, AreRead, AreReplacements, IsNetworks, IsPorts, of_ipv4, of_ipv6}
use Rattle.translator.specs.CommandLine.{AreMatchesOf, IsCommandLine, bare_command, capture_name, file_rules, network_rules, port_rules, with_rules}
use Rattle.translator.specs.Replacements.{HasNone}
use Rattle.translator.specs.declared.replacements.NetworkReplacement.{NetworkReplacement}
use Rattle.translator.specs.declared.replacements.PortReplacement.{PortReplacement}
use Rattle.translator.specs.declared.replacements.Replacements.{Replacements}

-- ---- the command line

-- the command after another argument is added
pub adds_rule : (old : Command) (arg : Arg) (new : Command) (app : App) (rule : Rule) → AddsArg old arg new
    → arg.global ≡ false → rule_of arg ≡ rule → app_of old ≡ app → app_of new ≡ with_rule app rule
adds_rule old arg new app rule adds local is_rule is_app =
    adds.shape local ∙ (ap (with_rule (app_of old)) is_rule ∙ ap (λ some. with_rule some rule) is_app)

-- the command line, of a bare command with all options
pub all_options : (bare networks ports all : App) → bare ≡ bare_command → networks ≡ with_rules bare network_rules
    → ports ≡ with_rules networks port_rules → all ≡ with_rules ports file_rules → IsCommandLine all
all_options bare networks ports all is_bare is_networks is_ports is_all =
    is_all
    ∙ ap (λ app. with_rules app file_rules) (is_ports
    ∙ ap (λ app. with_rules app port_rules) (is_networks
    ∙ ap (λ app. with_rules app network_rules) is_bare))

-- the matches that clap finds are the matches of the command line
pub matches_of_command_line : (app : App) (words : List Text) (matches : ArgMatches) → IsCommandLine app → HasMatchesOf app words matches
    → (is_simple_and_free app ≡ true → fault_of app words ≡ []) → AreMatchesOf words matches
matches_of_command_line app words matches is_line has fits =
    (app, is_line, fits (ap is_simple_and_free is_line ∙ refl), (has (ap is_simple is_line ∙ refl)).0)

-- the name of the capture as the code finds it
pub named : (read file : Option (Bor Text))
    → option_map (λ name. name.now) (option_or read file)
    ≡ capture_name (option_map (λ name. name.now) read) (option_map (λ name. name.now) file)
named None file = refl
named (Some read) file = refl

-- ---- values that are read

-- values and more values are read one after the other
read_after : {X : Type 0} (Reads : Text → X → Type 0) (values more : List Text) (items others : List X) → AreRead Reads values items
    → AreRead Reads more others → AreRead Reads (values ++ more) (items ++ others)
read_after Reads [] more [] others first second = second
read_after Reads [] more (item ∷ items) others first second = absurd first
read_after Reads (value ∷ values) more [] others first second = absurd first
read_after Reads (value ∷ values) more (item ∷ items) others first second =
    (first.0, read_after Reads values more items others first.1 second)

-- the items of one list after the items of another list
module _ {X A : Type 0} (f : X → List A) where
  lists_after : (first : List A) (xs ys : List X) (middle last : List A) → middle ≡ first ++ flat_map f xs → last ≡ middle ++ flat_map f ys
      → last ≡ first ++ flat_map f (xs ++ ys)
  lists_after first xs ys middle last is_middle is_last =
      is_last
      ∙ (ap (λ items. items ++ flat_map f ys) is_middle
      ∙ (append_assoc first (flat_map f xs) (flat_map f ys) ∙ ap (λ items. first ++ items) (sym (flat_map-append f xs ys))))

-- the texts up to a place, and the text at the place
texts_more : (values : List (Bor Text)) (place : ℕ) (none : Bor Text) → place < length values
    → map (λ value. value.now) (take (place + 1) values) ≡ map (λ value. value.now) (take place values) ++ (get_or values place none).now
    ∷ []
texts_more values place none within =
    ap (map (λ value. value.now)) (take_more values place none within)
    ∙ map-append (λ value. value.now) (take place values) (get_or values place none ∷ [])

-- ---- networks

-- no values add nothing
pub adds_none : (values : List Text) (same : Replacements) → values ≡ [] → AddsNetworks values same same
adds_none values same is =
    subst (λ given. AddsNetworks given same same) (sym is) (record {
      read = [];
      are_read = tt;
      ipv4 = sym (append-nil same.ipv4.items);
      ipv6 = sym (append-nil same.ipv6.items);
      ports = refl;
    })

-- values and more values add their replacements one after the other
adds_after : (values more : List Text) (before middle after : Replacements) → AddsNetworks values before middle
    → AddsNetworks more middle after
    → AddsNetworks (values ++ more) before after
adds_after values more before middle after first second = record {
  read = first.read ++ second.read;
  are_read = read_after IsNetworks values more first.read second.read first.are_read second.are_read;
  ipv4 = lists_after of_ipv4 before.ipv4.items first.read second.read middle.ipv4.items after.ipv4.items first.ipv4 second.ipv4;
  ipv6 = lists_after of_ipv6 before.ipv6.items first.read second.read middle.ipv6.items after.ipv6.items first.ipv6 second.ipv6;
  ports = second.ports ∙ first.ports;
}

-- a value adds its replacement
adds_single : (value : Text) (read : NetworkReplacement × Bool) (before after : Replacements) → IsNetworks value read
    → AddsOne read before after
    → AddsNetworks (value ∷ []) before after
adds_single value read before after is adds = record {
  read = read ∷ [];
  are_read = (is, tt);
  ipv4 = adds.ipv4 ∙ ap (λ items. before.ipv4.items ++ items) (sym (append-nil (of_ipv4 read)));
  ipv6 = adds.ipv6 ∙ ap (λ items. before.ipv6.items ++ items) (sym (append-nil (of_ipv6 read)));
  ports = adds.ports;
}

-- after the values before a place, the value at the place adds its replacement
pub adds_next : (values : List (Bor Text)) (place : ℕ) (none : Bor Text) (read : NetworkReplacement × Bool)
    (before middle after : Replacements)
    → place < length values → AddsNetworks (map (λ value. value.now) (take place values)) before middle
    → IsNetworks (get_or values place none).now read → AddsOne read middle after
    → AddsNetworks (map (λ value. value.now) (take (place + 1) values)) before after
adds_next values place none read before middle after within first is adds =
    subst (λ given. AddsNetworks given before after) (sym (texts_more values place none within))
    (adds_after (map (λ value. value.now) (take place values)) ((get_or values place none).now ∷ []) before middle after first
    (adds_single (get_or values place none).now read middle after is adds))

-- ---- ports

-- no values add nothing
pub adds_no_ports : (values : List Text) (same : Replacements) → values ≡ [] → AddsPorts values same same
adds_no_ports values same is =
    subst (λ given. AddsPorts given same same) (sym is) (record {
      read = [];
      are_read = tt;
      ipv4 = refl;
      ipv6 = refl;
      ports = sym (append-nil same.ports.items);
    })

-- after the values before a place, the value at the place adds its replacement
pub adds_next_port : (values : List (Bor Text)) (place : ℕ) (none : Bor Text) (read : PortReplacement) (before middle after : Replacements)
    → place < length values → AddsPorts (map (λ value. value.now) (take place values)) before middle
    → IsPorts (get_or values place none).now read → after.ipv4.items ≡ middle.ipv4.items → after.ipv6.items ≡ middle.ipv6.items
    → after.ports.items ≡ middle.ports.items ++ read ∷ [] → AddsPorts (map (λ value. value.now) (take (place + 1) values)) before after
adds_next_port values place none read before middle after within first is ipv4 ipv6 ports =
    subst (λ given. AddsPorts given before after) (sym (texts_more values place none within))
    (record {
      read = first.read ++ read ∷ [];
      are_read = read_after IsPorts (map (λ value. value.now) (take place values)) ((get_or values place none).now ∷ []) first.read
          (read ∷ [])
          first.are_read (is, tt);
      ipv4 = ipv4 ∙ first.ipv4;
      ipv6 = ipv6 ∙ first.ipv6;
      ports = ports ∙ (ap (λ items. items ++ read ∷ []) first.ports ∙ append_assoc before.ports.items first.read (read ∷ []));
    })

-- ---- one side

-- the replacements for one side, if there were none before
pub all_replacements : (own shared ports : List Text) (none first second all : Replacements) → HasNone none → AddsNetworks own none first
    → AddsNetworks shared first second → AddsPorts ports second all → AreReplacements (own ++ shared) ports all
all_replacements own shared ports none first second all is_none adds_own adds_shared adds_ports =
    let networks = adds_after own shared none first second adds_own adds_shared in
    record {
      read = networks.read;
      are_read = networks.are_read;
      ipv4 = adds_ports.ipv4 ∙ (networks.ipv4 ∙ ap (λ items. items ++ flat_map of_ipv4 networks.read) is_none.ipv4);
      ipv6 = adds_ports.ipv6 ∙ (networks.ipv6 ∙ ap (λ items. items ++ flat_map of_ipv6 networks.read) is_none.ipv6);
      are_ports = subst (AreRead IsPorts ports)
          (sym (adds_ports.ports ∙ ap (λ items. items ++ adds_ports.read) (networks.ports ∙ is_none.ports))) adds_ports.are_read;
    }
