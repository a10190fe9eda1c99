-- How many bytes the fields of a line have: numbers, nodes and codes within bounds.
use mathlib.Core.Path.{◌≡◌, refl}
use mathlib.Core.Logic.{by_cases}
use mathlib.Core.Bool.{Bool, true, false}
use mathlib.Core.List.{[]}
use Prim.Native.Nat.{ℕ, zero, suc, ◌-◌, ◌*◌, ◌≤◌, ◌<◌}
use native.Mathlib.Omega.{arith}
use native.Mathlib.Decide.{dec_le}
use lib.IntN.{ℤ}
use lib.ListN.{length, get_or}
use Rattle.lists.proofs.Every.{every_at}
use Rattle.matrix_form.specs.Shape.{in_range}
use Rattle.difference_form.specs.Rows.{most_difference}
use Rattle.consistency_form.specs.Index.{thousand}
use Rattle.text_form.specs.Decimal.{digits_of, decimal}
use Rattle.file_form.specs.Job.{Job, JobWithinLimits, name_form}
use Rattle.text_form.specs.Text.{bytes}
use Rattle.text_form.proofs.Digits.{digits_length}
use Rattle.file_form.proofs.File.FileLength.{code-length}
use Rattle.listing_form.specs.Lines.{hyphen, htu_name, node_name}
use Rattle.listing_form.specs.Kinds.{mark}
use Rattle.lines.proofs.Fields.{node_taxon, node_htu}
use Rattle.listing.proofs.Unpadded.{name_short}
use Rattle.listing_form.proofs.Totals.{limits}

-- a number below a thousand million has at most 9 digits
pub number_size : (n : ℕ) → n < 1000000000 → length (digits_of n) ≤ 9
number_size n h = digits_length n 8 h

-- a length up to the largest difference has at most 7 digits
pub length_size : (n : ℕ) → n ≤ most_difference → length (digits_of n) ≤ 7
length_size n h = let small : n < 10000000 = omega arith in digits_length n 6 small

-- thousandths of an index have at most 4
pub quotient_size : (n : ℕ) → n ≤ thousand → length (digits_of n) ≤ 4
quotient_size n h = let small : n < 10000 = omega arith in digits_length n 3 small

-- a number below a thousand, as that of a character, has at most 3
pub short_size : (n : ℕ) → n < 1000 → length (digits_of n) ≤ 3
short_size n h = digits_length n 2 h

-- a code from -999 to 999 has at most 4 bytes
pub code-size : (z : ℤ) → in_range z ≡ true → length (decimal z) ≤ 4
code-size z e = code-length z e

-- a mark has one byte
pub mark-size : (marked : Bool) → length (mark marked) ≡ 1
unfolding mark bytes
mark-size true = refl
mark-size false = refl

-- an HTU of a small number has at most 10 bytes
htu-size : (number : ℕ) → number < 1000000000 → length (htu_name number) ≤ 10
unfolding htu_name bytes
htu-size number h = omega (arith, number_size number h)

-- a hyphen has one byte
pub hyphen-size : length hyphen ≡ 1
unfolding hyphen bytes
hyphen-size = refl

-- a node up to 2n of a job within the limits has at most 16 bytes
pub node_size : (job : Job) → JobWithinLimits job → (v : ℕ) → v ≤ 2 * job.n → length (node_name job.n job.names v) ≤ 16
unfolding node_name
node_size job within zero h = omega (arith, hyphen-size)
node_size job within (suc v) h =
    let known = limits job.n job.m within.limits in
    by_cases (dec_le (suc v) job.n)
    (λ taxon.
    let place : suc v - 1 < length job.names = omega (arith, within.name_count) in
    let name = name_short (get_or job.names (suc v - 1) []) (every_at name_form job.names within.names_formed (suc v - 1) [] place) in
    rw (node_taxon job.n job.names (suc v) (omega arith) taxon) name)
    (λ htu.
    let above : job.n < suc v = omega arith in
    let number : suc v - job.n < 1000000000 = omega arith in
    let size = htu-size (suc v - job.n) number in
    rw (node_htu job.n job.names (suc v) above) (omega arith))
