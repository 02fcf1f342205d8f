-- Records that waited reach the disk, one after another.
use Rattle.qs_world_refine.proofs.Words.{◌≡◌, ℕ, ◌==◌, Bool, true, false, List, [], ◌∷◌, fold, arith, refl, sym, ap, subst, ◌∙◌, if◌then◌else◌, eqb-true, nat_tests, same_tid, Tid, Record, Recovery, found_record, Committed, Leads, IsLawful, leads_on, MayClose, sight_logged, place, Runs, SightGoes, Sight, ShowsSight}
use Rattle.qs_record.specs.declared.record.Record.TheVariants as records
use Rattle.qs_world_agree.specs.World.{World}
use Rattle.qs_world_agree.proofs.Carries.{silenced_on}
use Rattle.qs_world_refine.specs.ClosingLaws.{sight_recorded}
use Rattle.qs_world_refine.specs.MoveLaws.{StaysClosed, ClosedGoes}
use Rattle.qs_world_refine.proofs.Acking.{Acked, acked_on}
use Rattle.qs_world_refine.proofs.Alike.{SameFound, same_itself, found_itself, sight_alike}
use Rattle.qs_world_refine.proofs.Facts.{lawful_on}
use Rattle.qs_world_refine.proofs.LogClosing.{end_logged, abort_logged}
use Rattle.qs_world_refine.proofs.LogFrames.{record_apart}
use Rattle.qs_world_refine.proofs.SoundKnown.{same_is}

-- ---- such records stay such

closes_on : (tid : Tid) (n q : ℕ) (w v : World) (rec : Record) → IsLawful w → Leads w v → v.up q ≡ true → (n ≡ tid.home.0 → w.node q ≡ w.node w.home) → MayClose tid n q w rec → MayClose tid n q v rec
closes_on tid n q w v (records.Prepare other server covers changes) lawful leads on here may = may
closes_on tid n q w v (records.Commit other told) lawful leads on here may = may
closes_on tid n q w v (records.Aborted other) lawful leads on here may = λ same. (silenced_on w v lawful.reached leads).known q (may same)
closes_on tid n q w v (records.End other) lawful leads on here may = λ same.
    let is : (n ≡ tid.home.0) × ((w.outcome q ≡ Committed) × ((m : ℕ) → w.commit_list m ≡ true → w.acknowledged m ≡ true)) = may same in
    let acked : (m : ℕ) → Acked v q m = λ m. acked_on w v q m lawful leads (record { at_home = here is.0; committed = is.1.0; acked = λ _ listed. is.1.1 m listed }) in
    (is.0, ((acked 0).committed, λ m listed. (acked m).acked on listed))

pub stays_closed : StaysClosed
stays_closed tid n q w v [] lawful leads on here all = tt
stays_closed tid n q w v (rec ∷ rest) lawful leads on here all = (closes_on tid n q w v rec lawful leads on here all.0, stays_closed tid n q w v rest lawful leads on here all.1)

-- ---- they reach the disk

module _ (tid : Tid) (x : Sight) (n : ℕ) where
  -- pointwise the same logs
  found_as : (f g : ℕ → Recovery) (w : World) → ((k : ℕ) → SameFound tid (f k) (g k)) → ShowsSight tid (record x { found = f }) w → ShowsSight tid (record x { found = g }) w
  found_as f g w same = sight_alike tid (record x { found = f }) (record x { found = g }) w (record { size = refl; inc = refl; up = refl; knows = refl; face = λ k. same_itself (x.face k); said = λ a k b l. refl; unmet = λ a b. refl; found = same })

  changed : Recovery → ℕ → Recovery
  changed r k = if k == n then r else x.found k

  -- the last change counts
  twice : (rec : Record) (rest : List Record) (k : ℕ) → SameFound tid (if k == n then fold found_record (if n == n then found_record (x.found n) rec else x.found n) rest else (if k == n then found_record (x.found n) rec else x.found k))
      (if k == n then fold found_record (found_record (x.found n) rec) rest else x.found k)
  twice rec rest k = by (k == n) (n == n) (grind (arith, nat_tests))
    where
      by : (b c : Bool) → c ≡ true → SameFound tid (if b then fold found_record (if c then found_record (x.found n) rec else x.found n) rest else (if b then found_record (x.found n) rec else x.found k))
          (if b then fold found_record (found_record (x.found n) rec) rest else x.found k)
      by true c is = rw is (found_itself tid (fold found_record (found_record (x.found n) rec) rest))
      by false c is = found_itself tid (x.found k)

one_goes : (tid : Tid) (rec : Record) (x : Sight) (w : World) (n : ℕ) → IsLawful w → ShowsSight tid x w → Runs x n → MayClose tid n (place n (x.inc n)) w rec → SightGoes tid (sight_recorded x n rec) w
one_goes tid rec x w n lawful shown at may = by rec may
  where
    -- of another transaction nothing is said
    other : (rec : Record) → same_tid tid (Rattle.qs_world_refine.proofs.LogFrames.record_tid rec) ≡ false → SightGoes tid (sight_recorded x n rec) w
    other rec apart = record {
      next = w;
      leads = record { events = []; run = refl };
      shown = found_as tid x n x.found (λ k. if k == n then found_record (x.found n) rec else x.found k) w (λ k. same k (k == n) refl) shown;
    }
      where
        same : (k : ℕ) (b : Bool) → (k == n) ≡ b → SameFound tid (x.found k) (if b then found_record (x.found n) rec else x.found k)
        same k true is = rw (eqb-true k n is) (record_apart tid rec (x.found n) apart)
        same k false is = found_itself tid (x.found k)

    by : (rec : Record) → MayClose tid n (place n (x.inc n)) w rec → SightGoes tid (sight_recorded x n rec) w
    by (records.Prepare u server covers changes) may = other (records.Prepare u server covers changes) may
    by (records.Commit u told) may = other (records.Commit u told) may
    by (records.Aborted u) may = its (same_tid tid u) refl
      where
        its : (b : Bool) → same_tid tid u ≡ b → SightGoes tid (sight_recorded x n (records.Aborted u)) w
        its false apart = other (records.Aborted u) apart
        its true same = subst (λ (t : Tid). SightGoes tid (sight_recorded x n (records.Aborted t)) w) (same_is tid u same) (abort_logged tid x w n lawful shown at (sym (shown.faces n at.in_run at.up).outcome ∙ may same))
    by (records.End u) may = its (same_tid tid u) refl
      where
        ends : (n : ℕ) → n ≡ tid.home.0 → Runs x n → (w.outcome (place n (x.inc n)) ≡ Committed) → ((m : ℕ) → w.commit_list m ≡ true → w.acknowledged m ≡ true) → SightGoes tid (sight_recorded x n (records.End tid)) w
        ends n is at committed all = subst (λ (k : ℕ). Runs x k → w.outcome (place k (x.inc k)) ≡ Committed → SightGoes tid (sight_recorded x k (records.End tid)) w) (sym is)
            (λ at committed. end_logged tid x w lawful shown at (sym (shown.faces tid.home.0 at.in_run at.up).outcome ∙ committed) all) at committed

        its : (b : Bool) → same_tid tid u ≡ b → SightGoes tid (sight_recorded x n (records.End u)) w
        its false apart = other (records.End u) apart
        its true same = let is : (n ≡ tid.home.0) × ((w.outcome (place n (x.inc n)) ≡ Committed) × ((m : ℕ) → w.commit_list m ≡ true → w.acknowledged m ≡ true)) = may same in
            subst (λ (t : Tid). SightGoes tid (sight_recorded x n (records.End t)) w) (same_is tid u same) (ends n is.0 at is.1.0 is.1.1)

pub closed_goes : ClosedGoes
closed_goes tid [] x w n lawful shown at home_in all = record { next = w; leads = record { events = []; run = refl }; shown = found_as tid x n x.found (λ k. if k == n then x.found n else x.found k) w (λ k. same k (k == n) refl) shown }
  where
    same : (k : ℕ) (b : Bool) → (k == n) ≡ b → SameFound tid (x.found k) (if b then x.found n else x.found k)
    same k true is = rw (eqb-true k n is) (found_itself tid (x.found n))
    same k false is = found_itself tid (x.found k)
closed_goes tid (rec ∷ rest) x w n lawful shown at home_in all =
    let first : SightGoes tid (sight_recorded x n rec) w = one_goes tid rec x w n lawful shown at all.0 in
    let more : SightGoes tid (sight_logged (sight_recorded x n rec) n rest) first.next = closed_goes tid rest (sight_recorded x n rec) first.next n (lawful_on w first.next lawful first.leads) first.shown (record { in_run = at.in_run; up = at.up }) home_in
    (stays_closed tid n (place n (x.inc n)) w first.next rest lawful first.leads (first.shown.faces n at.in_run at.up).up at_home all.1) in
    record {
      next = more.next;
      leads = leads_on w first.next more.next first.leads more.leads;
      shown = found_as tid x n (λ k. if k == n then fold found_record (if n == n then found_record (x.found n) rec else x.found n) rest else (if k == n then found_record (x.found n) rec else x.found k))
          (λ k. if k == n then fold found_record (found_record (x.found n) rec) rest else x.found k) more.next (twice tid x n rec rest) more.shown;
    }
  where
    at_home : n ≡ tid.home.0 → w.node (place n (x.inc n)) ≡ w.node w.home
    at_home is = shown.stage.nodes n (x.inc n) at.in_run ∙ (is ∙ sym (ap w.node shown.stage.home ∙ shown.stage.nodes tid.home.0 tid.inc home_in))
