-- A file longer than 45,000 bytes is refused whatever its bytes are, so no more than its first 45,001 need be handed over.
use mathlib.Core.Path.{◌≡◌, sym, ap, ◌∙◌}
use mathlib.Core.Logic.{by_cases}
use mathlib.Core.List.{List}
use Prim.Native.Nat.{ℕ, ◌<◌}
use native.Mathlib.Omega.{arith}
use native.Mathlib.Decide.{dec_le}
use lib.ListN.{length, take}
use lib.Seq.{take_all, length-take-le}
use borrow.Author.Tests.{lt-leb}
use Rattle.matrix_form.specs.Outcomes.{refused}
use Rattle.file_form.specs.Job.{most_bytes}
use Rattle.file_form.specs.Reading.{ask_length, read_answer}

-- a file of more than 45,000 bytes is refused by 1, with line 0
pub longer-refused : (file : List ℕ) → most_bytes < length file → read_answer file ≡ refused 1 0
unfolding read_answer ask_length
longer-refused file long = rw (lt-leb (length file) most_bytes long)

-- a file and its first 45,001 bytes are read alike
pub front-read : (file : List ℕ) → read_answer (take 45001 file) ≡ read_answer file
front-read file =
    by_cases
    (dec_le (length file) 45001)
    (λ short. ap read_answer (take_all 45001 file short))
    (λ more.
    let size : length (take 45001 file) ≡ 45001 = length-take-le 45001 file (omega arith) in
    let front : most_bytes < length (take 45001 file) = omega arith in
    let long : most_bytes < length file = omega arith in
    longer-refused (take 45001 file) front ∙ sym (longer-refused file long))
