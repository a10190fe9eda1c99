-- A character that counts w times is fitted as one that counts once: its costs are w times as high, and all else is the same.
use mathlib.Core.Path.{◌≡◌, refl, sym, ap, ap₂, ◌∙◌}
use Prim.Native.Nat.{ℕ, ◌+◌, ◌*◌, ◌≤◌}
use native.Mathlib.Nat.{mul-add, mul-le-mul_left, le_of_mul-le-mul_left, mul-zero, eq_of_mul-eq-mul_left}
use lib.IntN.{ℤ}
use Rattle.difference_form.proofs.Laws.Distance.{times, distance_weighed}
use Rattle.clades.specs.Clades.{Clade, tip, fork}
use Rattle.clades.proofs.Clades.Cost.{cost}
use Rattle.clades.proofs.Sets.Laws.{Metric}
use Rattle.clades.proofs.OneCharacter.CharacterFit.{length_in, Within, CharacterFit}

-- the cost of a clade in a character of weight w is w times that in a character of weight 1
pub cost-weighed : (w : ℕ) (step : ℤ → ℤ → ℕ) (f : ℕ → ℤ) (y : ℤ) (t : Clade) → cost (times w step) f y t ≡ w * cost step f y t
unfolding cost
cost-weighed w step f y (tip v) = refl
cost-weighed w step f y (fork v a b) =
    ap (λ k. w * step (f v) y + k)
    (ap₂ ◌+◌ (cost-weighed w step f (f v) a) (cost-weighed w step f (f v) b)
    ∙ sym (mul-add w (cost step f (f v) a) (cost step f (f v) b)))
    ∙ sym (mul-add w (step (f v) y) (cost step f (f v) a + cost step f (f v) b))

module _ (w : ℕ) (some : 1 ≤ w) (step : ℤ → ℤ → ℕ) where
  -- a distance that is 0 only from a state to itself stays so, counted w times, if w is not 0
  pub metric_weighed : Metric step → Metric (times w step)
  metric_weighed metric = record {
    distance = distance_weighed w step metric.distance;
    same = λ x y e. metric.same x y (eq_of_mul-eq-mul_left w some (step x y) 0 (e ∙ sym (mul-zero w)));
  }

  module _ (Own : ℕ → ℤ → Type 0) (t : Clade) where
    -- an assignment that is no longer than another by weight 1 is so by weight w
    within-weighed : (g f : ℕ → ℤ) → Within step Own t (length_in step t g) f →
        Within (times w step) Own t (length_in (times w step) t g) f
    within-weighed g f h = record {
      assigns = h.assigns;
      most = rw (cost-weighed w step f (f 1) t, cost-weighed w step g (g 1) t) (mul-le-mul_left w h.most);
    }

    -- and one that is so by weight w is so by weight 1
    weighed-within : (g f : ℕ → ℤ) → Within (times w step) Own t (length_in (times w step) t g) f →
        Within step Own t (length_in step t g) f
    weighed-within g f h = record {
      assigns = h.assigns;
      most = le_of_mul-le-mul_left (rw (cost-weighed w step f (f 1) t, cost-weighed w step g (g 1) t) at h.most) some;
    }

    -- a character is fitted by weight w with the same chosen states and the same ranges
    pub weighed-fit : (chosen : ℕ → ℤ) (InRange : ℕ → ℤ → Type 0) → CharacterFit step Own t chosen InRange →
        CharacterFit (times w step) Own t chosen InRange
    weighed-fit chosen InRange fit = record {
      assigns = fit.assigns;
      least = λ f h. (within-weighed f chosen (record { assigns = fit.assigns; most = fit.least f h })).most;
      sound = λ f h. fit.sound f (weighed-within chosen f h);
      reached = λ v node s i.
          let a = fit.reached v node s i in
          record { states = a.states; is_within = within-weighed chosen a.states a.is_within; here = a.here };
    }
