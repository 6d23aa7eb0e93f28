-- The reasons why packets can't be written to a file.
use Rattle.std.specs.Prelude.{ℕ, ◌&&◌, Bool, false, true, not, if◌then◌else◌, List, [], ◌∷◌, codes, map, Option, Some, None}
use Rattle.std.specs.Option.{option_map}
use Rattle.std.specs.Str.{bytes_eq}
use Rattle.capture_arguments.specs.Filters.{has_filter}
use Rattle.capture_arguments.specs.declared.arguments.Options.{Options}

-- the text of the error if the file to write is the capture
abbrev pub is_capture_text : List ℕ
is_capture_text = codes "the FILE of '--write <FILE>' is the capture"

-- the text of the error if several captures are named; if a name begins like a filter, it lists the options for filters
abbrev pub several_text : Bool → List ℕ
several_text false = codes "'--write <FILE>' is used with more than one capture"
several_text true = codes "'--write <FILE>' is used with more than one capture; filters are --host, --port and --protocol"

-- The reason why the packets of these captures can't be written to the file with this name, if there is one. The file is the capture, or
-- several captures are named. The name `-` may be both the capture and the file, since it means standard input or standard output.
abbrev pub output_fault : Option (List ℕ) → List (List ℕ) → Option (List ℕ)
output_fault None captures = None
output_fault (Some name) [] = None
output_fault (Some name) (capture ∷ []) =
    if bytes_eq capture name && not (bytes_eq name (codes "-")) then Some is_capture_text else None
output_fault (Some name) (capture ∷ (other ∷ captures)) = Some (several_text (has_filter (capture ∷ (other ∷ captures))))

-- the reason for the file and the captures that these options name
abbrev pub fault_of : Options → Option (List ℕ)
fault_of options = output_fault (option_map (λ name. name.now) options.write) (map (λ name. name.now) options.files.items)
