-- Names of captures that begin like a filter of tcpdump.
use Rattle.std.specs.Prelude.{List, [], ◌∷◌, ℕ, ◌==◌, Bool, codes}
use Rattle.std.specs.List.{before_first, list_any}
use Rattle.std.specs.Str.{bytes_eq}

-- the words with which a filter of tcpdump can begin (pcap-filter(7))
abbrev pub filter_words : List (List ℕ)
filter_words =
    codes "tcp" ∷ codes "udp" ∷ codes "icmp" ∷ codes "icmp6" ∷ codes "ip" ∷ codes "ip6" ∷ codes "arp" ∷ codes "ether" ∷ codes "host"
    ∷ codes "net"
    ∷ codes "port" ∷ codes "portrange" ∷ codes "src" ∷ codes "dst" ∷ codes "not" ∷ codes "proto" ∷ codes "vlan" ∷ codes "less"
    ∷ codes "greater"
    ∷ codes "sctp" ∷ []

-- the code of a space
abbrev pub space : ℕ
space = 32

-- the part of a name before its first space; without a space it is the whole name
abbrev pub first_word : List ℕ → List ℕ
first_word name = before_first (λ byte. byte == space) name

-- the first word of the name is a word with which a filter can begin
abbrev pub is_filter : List ℕ → Bool
is_filter name = list_any (λ word. bytes_eq word (first_word name)) filter_words
