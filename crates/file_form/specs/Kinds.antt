-- The kinds of file, as a table, and the kind that the first word of line 1 says (document 01, and document 02, M-100 and M-103).
use Rattle.std.specs.Prelude.{List, [], ◌∷◌, Bool, true, false, cond, ℕ, Option, None, Some, is_some}
use Rattle.lists.specs.Tests.{same_numbers as same_text}
use Rattle.file_form.specs.declared.header.Kind.{Kind}
use Rattle.file_form.specs.declared.header.Kind.TheVariants.{Wagner, Own}
use Rattle.file_form.specs.Words.{word_w, word_f}

-- a row of the table: the word of the kind, how many fields line 1 has at most, and whether `C` lines with a branching stand behind the
-- rows
pub record KindForm : Type 0 where
  pub word : List ℕ
  pub most_fields : ℕ
  pub branched : Bool

-- the table: a word for the order stands in a `W` file alone, and a branching in an `F` file alone
abbrev pub kind_form : Kind → KindForm
kind_form Wagner = record { word = word_w; most_fields = 4; branched = false }
kind_form Own = record { word = word_f; most_fields = 3; branched = true }

-- the kinds that it has
abbrev pub all_kinds : List Kind
all_kinds = Wagner ∷ Own ∷ []

-- the kind among these whose word this is, if there is one
abbrev pub kind_among : List ℕ → List Kind → Option Kind
kind_among word [] = None
kind_among word (kind ∷ kinds) = cond (same_text word (kind_form kind).word) (Some kind) (kind_among word kinds)

-- the word of a kind
unfoldable pub is_kind : List ℕ → Bool
is_kind word = is_some (kind_among word all_kinds)

-- the kind that such a word says
unfoldable pub kind_said : List ℕ → Kind
kind_said word = elim (kind_among word all_kinds) [ Some kind ↦ kind | None ↦ Wagner ]
