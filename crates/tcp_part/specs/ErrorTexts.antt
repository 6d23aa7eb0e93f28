-- The text of an error about an option of any kind.
use Rattle.std.specs.Prelude.{ℕ, List, [], ◌∷◌, codes}
use Rattle.std.specs.Fmt.{decimal}
use Rattle.std.specs.List.{concat}
use Rattle.tcp_part.specs.declared.tcp_raw_option_error.TcpRawOptionError.{TcpRawOptionError}
use Rattle.tcp_part.specs.declared.tcp_raw_option_error.TcpRawOptionError.TheVariants.{NoLengthByte, LengthBelowTwo, LengthBeyondEnd}

-- the text of the error
abbrev pub raw_option_text : TcpRawOptionError → List ℕ
raw_option_text (NoLengthByte kind) = concat (
    codes "TcpRawOptionError: The option of kind " ∷ decimal kind ∷ codes " has no length byte." ∷ [])
raw_option_text (LengthBelowTwo kind len) = concat (
    codes "TcpRawOptionError: The length of the option of kind " ∷ decimal kind
    ∷ codes " is " ∷ decimal len ∷ codes ", which is below 2." ∷ [])
raw_option_text (LengthBeyondEnd kind len available) = concat (
    codes "TcpRawOptionError: The length of the option of kind " ∷ decimal kind
    ∷ codes " is " ∷ decimal len ∷ codes ", and only " ∷ decimal available ∷ codes " bytes are left." ∷ [])
