-- What holds of every refusal.
-- Assumes nothing.
use Prim.Native.Nat.{ℕ, ◌≤◌, ◌<◌}
use mathlib.Core.Logic.{◌⊎◌, inl, inr, ⊎_elim, ◌≢◌}
use mathlib.Core.Path.{◌≡◌, refl, ap}
use native.Mathlib.Omega.{arith}
use Rattle.refusal.specs.declared.Reason.{Reason}
use Rattle.refusal.specs.declared.Reason.TheVariants.{Opening, Ends, Groups, Edition, Kinds, Goal, Shift, Start, Gap, Pupils, Places, Jobs, JobKind, LeftOver, Buffer, Table, NoOrder, Job, Uncovered, SecondStart}
use Rattle.refusal.specs.Reasons.{reason_number, needed, reason_group, number_group}
use Rattle.refusal.specs.Answers.{refusal_number, refusal_of}

-- case by case, all that is used of a refusal
known : (r : Reason)
    → ((1 ≤ reason_number r) × (reason_number r < 256)) × (number_group (reason_number r) ≡ reason_group r) × ((needed r ≡ 0) ⊎ ((n : ℕ) × (r ≡ Table n)))
unfolding number_group
known Opening = (omega arith, refl, inl refl)
known Ends = (omega arith, refl, inl refl)
known Groups = (omega arith, refl, inl refl)
known Edition = (omega arith, refl, inl refl)
known Kinds = (omega arith, refl, inl refl)
known Goal = (omega arith, refl, inl refl)
known Shift = (omega arith, refl, inl refl)
known Start = (omega arith, refl, inl refl)
known Gap = (omega arith, refl, inl refl)
known Pupils = (omega arith, refl, inl refl)
known Places = (omega arith, refl, inl refl)
known Jobs = (omega arith, refl, inl refl)
known JobKind = (omega arith, refl, inl refl)
known LeftOver = (omega arith, refl, inl refl)
known Buffer = (omega arith, refl, inl refl)
known (Table n) = (omega arith, refl, inr (n, refl))
known NoOrder = (omega arith, refl, inl refl)
known Job = (omega arith, refl, inl refl)
known Uncovered = (omega arith, refl, inl refl)
known SecondStart = (omega arith, refl, inl refl)

module _ (r : Reason) where
  -- its number is 1 to 255 ..
  pub reason_range : (1 ≤ reason_number r) × (reason_number r < 256)
  reason_range = (known r).0

  -- .. so that it is R of its answer
  pub refusal_of_lem : refusal_of (refusal_number r) ≡ reason_number r
  refusal_of_lem = omega (arith, reason_range)

  -- its group is its number's
  pub group_by_number : number_group (reason_number r) ≡ reason_group r
  group_by_number = (known r).1

  -- only the reason for 16 carries anything
  pub carries : (needed r ≡ 0) ⊎ ((n : ℕ) × (r ≡ Table n))
  carries = (known r).2

-- a refusal of a message, and not of what is lent, of orders or of a second cutter: it is none of 15, 16, 17, 19, 20 ..
pub record OfMessage (r : Reason) : Type 0 where
  pub not_buffer : reason_number r ≢ 15
  pub not_table : reason_number r ≢ 16
  pub not_order : reason_number r ≢ 17
  pub not_uncovered : reason_number r ≢ 19
  pub not_second : reason_number r ≢ 20

-- .. so that it carries nothing
pub of_message_needed : (r : Reason) → OfMessage r → needed r ≡ 0
of_message_needed r own = ⊎_elim (λ e. e) (λ t. absurd (own.not_table (ap reason_number t.1))) (carries r)
