-- Where each transaction that a node knows has its turn, one of them has at most one.
use Rattle.qs_world_refine.proofs.Words.{◌≡◌, ◌⊎◌, inl, inr, not, Bool, true, false, List, [], ◌∷◌, ◌++◌, Some, fold, refl, sym, subst, ap, ◌∙◌, arith, if◌then◌else◌, is_at, list_all, lookup, nat_tests, tid_cmp, same_tid, Tid, Participant, Work, in_order, is_less, StaysSound, same_Some, not-true}
use Rattle.qs_world_refine.proofs.During.{Leaves, leaves_itself, leaves_on}
use Rattle.qs_world_refine.proofs.LogFrames.{Apart}
use Rattle.qs_world_refine.proofs.SoundFrames.{is_below, behind, order_tail}
use Rattle.qs_world_refine.proofs.SoundKnown.{same_is}
use Rattle.qs_world_refine.proofs.SoundParts.{and_both, both_and}

abbrev pub Entry : Type 0
Entry = Tid × Participant

-- those that are picked, in order
abbrev pub turns : (Entry → Bool) → List Entry → List Tid
turns pick [] = []
turns pick (e ∷ es) = if pick e then e.0 ∷ turns pick es else turns pick es

abbrev pub is_apart : Tid → Tid → Bool
is_apart t tid = not (same_tid t tid)

abbrev pub AllApart : Tid → List Tid → Type 0
AllApart t tids = list_all (is_apart t) tids ≡ true

apart_is : (t tid : Tid) → is_apart t tid ≡ true → Apart t tid
apart_is t tid is = not-true (same_tid t tid) is

-- ---- every other turn leaves it

module _ (t : Tid) (f : Work → Tid → Work) where
  pub turns_leave : ((tid : Tid) → Apart t tid → (work : Work) → Leaves t work (f work tid)) → (tids : List Tid) (work : Work) → AllApart t tids → Leaves t work (fold f work tids)
  turns_leave each [] work apart = leaves_itself t work
  turns_leave each (tid ∷ tids) work apart =
      let both : (is_apart t tid ≡ true) × (AllApart t tids) = and_both (is_apart t tid) (list_all (is_apart t) tids) apart in
      leaves_on t work (f work tid) (fold f (f work tid) tids) (each tid (apart_is t tid both.0) work) (turns_leave each tids (f work tid) both.1)

pub turns_sound : (f : Work → Tid → Work) → ((work : Work) (tid : Tid) → StaysSound work (f work tid)) → (tids : List Tid) (work : Work) → StaysSound work (fold f work tids)
turns_sound f each [] work = λ sound. sound
turns_sound f each (tid ∷ tids) work = λ sound. turns_sound f each tids (f work tid) (each work tid sound)

pub fold_split : (f : Work → Tid → Work) (front : List Tid) (t : Tid) (back : List Tid) (work : Work) → fold f work (front ++ t ∷ back) ≡ fold f (f (fold f work front) t) back
fold_split f [] t back work = refl
fold_split f (tid ∷ front) t back work = fold_split f front t back (f work tid)

-- ---- it has one turn

pub record Once (t : Tid) (pick : Entry → Bool) (es : List Entry) : Type 0 where
  pub front : List Tid
  pub back : List Tid
  pub is : turns pick es ≡ front ++ t ∷ back
  pub before : AllApart t front
  pub after : AllApart t back
  pub part : Participant
  pub known : lookup (is_at (tid_cmp t)) es ≡ Some part

-- or none
pub record Never (t : Tid) (pick : Entry → Bool) (es : List Entry) : Type 0 where
  pub apart : AllApart t (turns pick es)
  pub passed : (part : Participant) → lookup (is_at (tid_cmp t)) es ≡ Some part → pick (t, part) ≡ false

module _ (t : Tid) (pick : Entry → Bool) where
  later_apart : (k : Tid) → same_tid t k ≡ true → (es : List Entry) → list_all (is_below k) es ≡ true → AllApart t (turns pick es)
  later_apart k same [] below = refl
  later_apart k same (e ∷ es) below =
      let both : (is_below k e ≡ true) × (list_all (is_below k) es ≡ true) = and_both (is_below k e) (list_all (is_below k) es) below in
      by (pick e) (other k e.0 both.0) (later_apart k same es both.1)
    where
      other : (a b : Tid) → is_less (tid_cmp a b) ≡ true → same_tid a b ≡ false
      other a b less = grind (arith, nat_tests, less)

      by : (b : Bool) → same_tid k e.0 ≡ false → AllApart t (turns pick es) → AllApart t (if b then e.0 ∷ turns pick es else turns pick es)
      by true off more = both_and (is_apart t e.0) (list_all (is_apart t) (turns pick es)) (ap (λ (c : Bool). not c) (subst (λ (j : Tid). same_tid j e.0 ≡ false) (sym (same_is t k same)) off)) more
      by false off more = more

  here : (k : Tid) → same_tid t k ≡ true → is_at (tid_cmp t) k ≡ true
  here k same = grind (arith, nat_tests, same)

  there : (k : Tid) → same_tid t k ≡ false → is_at (tid_cmp t) k ≡ false
  there k apart = grind (arith, nat_tests, apart)

  pub turn_of : (es : List Entry) → in_order es ≡ true → Never t pick es ⊎ Once t pick es
  turn_of [] ordered = inl (record { apart = refl; passed = λ part known. absurd (cc known) })
  turn_of (e ∷ es) ordered = by (same_tid t e.0) refl (pick e) refl (turn_of es (order_tail e es ordered))
    where
      value : same_tid t e.0 ≡ true → lookup (is_at (tid_cmp t)) (e ∷ es) ≡ Some e.1
      value same = rw (here e.0 same) refl

      further : same_tid t e.0 ≡ false → lookup (is_at (tid_cmp t)) (e ∷ es) ≡ lookup (is_at (tid_cmp t)) es
      further apart = rw (there e.0 apart) refl

      by : (s : Bool) → same_tid t e.0 ≡ s → (p : Bool) → pick e ≡ p → Never t pick es ⊎ Once t pick es → Never t pick (e ∷ es) ⊎ Once t pick (e ∷ es)
      by true same true picked more = inr (record {
        front = [];
        back = turns pick es;
        is = rw picked (ap (λ (k : Tid). k ∷ turns pick es) (sym (same_is t e.0 same)));
        before = refl;
        after = later_apart e.0 same es (behind e es ordered);
        part = e.1;
        known = value same;
      })
      by true same false picked more = inl (record {
        apart = rw picked (later_apart e.0 same es (behind e es ordered));
        passed = λ part known. subst (λ (p : Participant). pick (t, p) ≡ false) (same_Some e.1 part (sym (value same) ∙ known)) (subst (λ (k : Tid). pick (k, e.1) ≡ false) (sym (same_is t e.0 same)) picked);
      })
      by false apart true picked (inl never) = inl (record {
        apart = rw picked (both_and (is_apart t e.0) (list_all (is_apart t) (turns pick es)) (ap (λ (c : Bool). not c) apart) never.apart);
        passed = λ part known. never.passed part (sym (further apart) ∙ known);
      })
      by false apart true picked (inr once) = inr (record {
        front = e.0 ∷ once.front;
        back = once.back;
        is = rw picked (ap (λ (l : List Tid). e.0 ∷ l) once.is);
        before = both_and (is_apart t e.0) (list_all (is_apart t) once.front) (ap (λ (c : Bool). not c) apart) once.before;
        after = once.after;
        part = once.part;
        known = further apart ∙ once.known;
      })
      by false apart false picked (inl never) = inl (record {
        apart = rw picked never.apart;
        passed = λ part known. never.passed part (sym (further apart) ∙ known);
      })
      by false apart false picked (inr once) = inr (record {
        front = once.front;
        back = once.back;
        is = rw picked once.is;
        before = once.before;
        after = once.after;
        part = once.part;
        known = further apart ∙ once.known;
      })
