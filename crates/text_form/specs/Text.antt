-- The bytes of a quoted ASCII text, for examples.
use Rattle.std.specs.Prelude.{List, [], ◌∷◌, ℕ}
use Prim.Native.Char.{code}
use Prim.Native.String.{String}

-- the bytes of a text
unfoldable pub bytes : String → List ℕ
bytes String.[] = []
bytes (String.◌∷◌ c text) = code c ∷ bytes text
