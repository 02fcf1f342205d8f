-- As a world begins each log is read as it stands: the votes that the machine has as pending are those in doubt there.
use Rattle.qs_world_lawful.proofs.Words.{◌≡◌, ℕ, ◌<◌, ◌+◌, ◌==◌, ◌&&◌, Bool, true, false, List, [], ◌∷◌, map, flat_map, Option, Some, fold, zero, suc, refl, sym, ap, ◌∙◌, arith, if◌then◌else◌, slice_get, option_map, filter, same_tid, Tid, Pending, Prepared, is_in_doubt, prepare_of, recovered_of, opened_from, opened_with, pending_of, Opening, last_doubt, is_plus_zero}
use Rattle.qs_world_lawful.proofs.OpenedBook.{last_pending}

pub opened_there : (o : Opening) (n more k : ℕ) → k < more → slice_get (opened_from o n more) k ≡ Some (opened_with (o.settings (n + k)) (recovered_of (o.logs (n + k))))
opened_there o n zero k low = absurd (none low)
  where
    none : {a : ℕ} → a < 0 → ⊥
    none {a} e = grind (arith, e)
opened_there o n (suc more) zero low = ap (λ (m : ℕ). Some (opened_with (o.settings m) (recovered_of (o.logs m)))) (is_plus_zero n)
opened_there o n (suc more) (suc k) low = opened_there o (n + 1) more k (fall low) ∙ ap (λ (m : ℕ). Some (opened_with (o.settings m) (recovered_of (o.logs m)))) (over n k)
  where
    fall : {a b : ℕ} → suc a < suc b → a < b
    fall {a} {b} e = grind (arith, e)

    over : (a b : ℕ) → (a + 1) + b ≡ a + suc b
    over a b = grind (arith)

-- ---- the votes that are pending, and those in doubt

abbrev pub as_pending : Prepared → Pending
as_pending v = record { tid = v.tid; server = v.server; covers = v.covers; changes = v.changes }

pub last_as : (tid : Tid) (s : ℕ) (votes : List Prepared) (d : Option Prepared) → fold (last_pending tid s) (option_map as_pending d) (flat_map pending_of (map prepare_of (filter is_in_doubt votes))) ≡ option_map as_pending (fold (last_doubt tid s) d votes)
last_as tid s [] d = refl
last_as tid s (v ∷ votes) d = by (is_in_doubt v) refl (λ e. last_as tid s votes e)
  where
    next : (b : Bool) → (if b then Some (as_pending v) else option_map as_pending d) ≡ option_map as_pending (if b then Some v else d)
    next true = refl
    next false = refl

    by : (b : Bool) → is_in_doubt v ≡ b → ((e : Option Prepared) → fold (last_pending tid s) (option_map as_pending e) (flat_map pending_of (map prepare_of (filter is_in_doubt votes))) ≡ option_map as_pending (fold (last_doubt tid s) e votes))
        → fold (last_pending tid s) (option_map as_pending d) (flat_map pending_of (map prepare_of (if b then v ∷ filter is_in_doubt votes else filter is_in_doubt votes))) ≡ option_map as_pending (fold (last_doubt tid s) (last_doubt tid s d v) votes)
    by true is more =
        ap (λ (p : Option Pending). fold (last_pending tid s) p (flat_map pending_of (map prepare_of (filter is_in_doubt votes)))) (next (same_tid v.tid tid && (v.server.0 == s)))
        ∙ (more (if same_tid v.tid tid && (v.server.0 == s) then Some v else d) ∙ ap (λ (b : Bool). option_map as_pending (fold (last_doubt tid s) (if b && (same_tid v.tid tid && (v.server.0 == s)) then Some v else d) votes)) (sym is))
    by false is more = more d ∙ ap (λ (b : Bool). option_map as_pending (fold (last_doubt tid s) (if b && (same_tid v.tid tid && (v.server.0 == s)) then Some v else d) votes)) (sym is)
