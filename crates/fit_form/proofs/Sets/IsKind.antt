-- Ordered characters are a kind of character.
use Rattle.std.proofs.Common.{◌≡◌, ℤ, arith}
use lib.Signed.{≤ℤ_refl}
use Rattle.difference_form.specs.Rows.{apart}
use Rattle.difference_form.proofs.Laws.Codes.{apart_distance, apart-zero}
use Rattle.clades.specs.Kinds.{among}
use Rattle.clades.proofs.Sets.Laws.{Metric, Laws}
use Rattle.clades.proofs.Sets.Among.{among-nearest, among_proper}
use Rattle.fit_form.specs.Sets.{Nonempty, in_order, six_ends, ordered}
use Rattle.matrix_form.specs.Spans.{only}
use Rattle.matrix_form.specs.declared.spans.Span.{Span}
use Rattle.fit_form.proofs.Sets.Distance.{only_nonempty, nearest_member_in, join_nonempty, offset-join, offset_in_join}
use Rattle.fit_form.proofs.Sets.Order.{third}
use Rattle.fit_form.proofs.Sets.Three.{middle_least, least-middle, middle_nonempty}
use Rattle.fit_form.proofs.Sets.Single.{nearest_least, only_code, only_one}

-- the absolute difference is a distance of states
pub apart_metric : Metric apart
apart_metric = record { distance = apart_distance; same = apart-zero }

-- the laws of the kind
pub ordered_laws : Laws ordered
ordered_laws = record {
  metric = apart_metric;
  nearest_in = nearest_member_in;
  nearest_least = nearest_least;
  join_proper = λ a b p q. join_nonempty a b;
  join_apart = λ a b p q s. offset-join s a b p q;
  join_in = λ a b p q s i. omega (arith, offset_in_join s a b p q i);
  middle_least = λ a b c p q r s. (
    λ i x. middle_least a b c p q r s x i,
    λ h. least-middle a b c p q r s (h (third (in_order (six_ends a b c)))),
  );
  middle_proper = middle_nonempty;
  lowest_in = λ a p. record { from_low = ≤ℤ_refl a.low; to_high = p.ordered };
  lowest_least = λ a p s i. i.from_low;
}

-- of a single code the code is nearest to any set
pub among-only : (c : ℤ) (b : Span) → Nonempty b → among ordered (only c) b ≡ only c
among-only c b q =
    only_one c (among ordered (only c) b) (among_proper ordered ordered_laws (only c) b (only_nonempty c) q)
    (λ s i. only_code s c ((among-nearest ordered ordered_laws (only c) b (only_nonempty c) q s).0 i).0)
