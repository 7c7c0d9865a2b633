-- The document's example of what the program prints. It takes a table of full size.
use Prim.Native.Char.{code}
use Prim.Native.String.{String}
use Rattle.std.specs.Prelude.{◌≡◌, [], ◌∷◌}
use Rattle.rules.specs.Words.{Bytes}
use Rattle.rules.specs.Program.{program}

-- the characters of a text, each as its byte
unfoldable pub characters : String → Bytes
characters String.[] = []
characters (String.◌∷◌ c more) = code c ∷ characters more

-- "Input `00`, `01`, `07`, an empty line prints:"
abbrev pub ProgramPrints : Type 0
ProgramPrints = program (characters "00\n01\n07\n\n") ≡ characters "1\n0 aa\n0 66e0\n0 66e0\n"
