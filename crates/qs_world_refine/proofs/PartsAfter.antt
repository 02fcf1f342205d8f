-- What is known of a transaction after a change of one, told from what was known before.
use Rattle.qs_world_refine.proofs.Words.{◌≡◌, inl, inr, Bool, true, false, List, Option, Some, None, is_some, refl, sym, ap, subst, ◌∙◌, arith, nat_tests, ◌⊎◌, is_at, lookup, same_tid, tid_cmp, Tid, Manager, Participant, in_order}
use Rattle.qs_tm.specs.Manager as tm
use Rattle.qs_world_refine.proofs.Forgetting.{forgotten}
use Rattle.qs_world_refine.proofs.Frames.{part_apart}
use Rattle.qs_world_refine.proofs.Maps.{lookup_changed, changed_none, lookup_put}
use Rattle.qs_world_refine.proofs.Others.{put_apart, forget_apart}
use Rattle.qs_world_refine.proofs.SoundKnown.{same_is}

-- it is another one, of which nothing changed, or this one
pub record IsSame (t tid : Tid) (old new : Manager) (part : Participant) : Type 0 where
  pub apart : same_tid t tid ≡ false
  pub was : tm.part_of t old ≡ Some part

pub record IsChanged (t tid : Tid) (f : Participant → Participant) (old : Manager) (part : Participant) : Type 0 where
  pub same : t ≡ tid
  pub before : Participant
  pub was : tm.part_of tid old ≡ Some before
  pub now : part ≡ f before

pub changed_seen : (t tid : Tid) (f : Participant → Participant) (m : Manager) (part : Participant) → tm.part_of t (tm.with_part tid f m) ≡ Some part → IsSame t tid m (tm.with_part tid f m) part ⊎ IsChanged t tid f m part
changed_seen t tid f m part now = by (same_tid t tid) refl
  where
    at : (o : Option Participant) → tm.part_of tid m ≡ o → tm.part_of tid (tm.with_part tid f m) ≡ Some part → t ≡ tid → IsChanged t tid f m part
    at None none here same = absurd (
        let stays : (tm.with_part tid f m).known ≡ m.known = changed_none (is_at (tid_cmp tid)) f m.known none in
        let still : tm.part_of tid (tm.with_part tid f m) ≡ None = ap (λ (es : List (Tid × Participant)). lookup (is_at (tid_cmp tid)) es) stays ∙ none in
        cc (still, here))
    at (Some before) was here same = record {
      same = same;
      before = before;
      was = was;
      now =
          let value : Some part ≡ Some (f before) = sym here ∙ lookup_changed (is_at (tid_cmp tid)) f m.known before was in cc (value);
    }

    by : (b : Bool) → same_tid t tid ≡ b → IsSame t tid m (tm.with_part tid f m) part ⊎ IsChanged t tid f m part
    by true is = let same : t ≡ tid = same_is t tid is in
        inr (at (tm.part_of tid m) refl (subst (λ (u : Tid). tm.part_of u (tm.with_part tid f m) ≡ Some part) same now) same)
    by false is = inl (record { apart = is; was = sym (part_apart t tid f m is) ∙ now })

pub record IsPut (t tid : Tid) (new part : Participant) : Type 0 where
  pub same : t ≡ tid
  pub now : part ≡ new

pub put_seen : (t tid : Tid) (new : Participant) (m : Manager) (part : Participant) → tm.part_of t (tm.put_part tid new m) ≡ Some part → IsSame t tid m (tm.put_part tid new m) part ⊎ IsPut t tid new part
put_seen t tid new m part now = by (same_tid t tid) refl
  where
    by : (b : Bool) → same_tid t tid ≡ b → IsSame t tid m (tm.put_part tid new m) part ⊎ IsPut t tid new part
    by true is =
        let same : t ≡ tid = same_is t tid is in
        let here : tm.part_of tid (tm.put_part tid new m) ≡ Some part = subst (λ (u : Tid). tm.part_of u (tm.put_part tid new m) ≡ Some part) same now in
        let value : Some part ≡ Some new = sym here ∙ lookup_put tid_cmp tid new (grind (arith, nat_tests)) m.known in
        inr (record { same = same; now = cc (value) })
    by false is = inl (record { apart = is; was = sym (put_apart t tid new m is) ∙ now })

pub forgot_seen : (t tid : Tid) (m : Manager) (part : Participant) → in_order m.known ≡ true → tm.part_of t (tm.forget tid m) ≡ Some part → IsSame t tid m (tm.forget tid m) part
forgot_seen t tid m part ordered now = by (same_tid t tid) refl
  where
    by : (b : Bool) → same_tid t tid ≡ b → IsSame t tid m (tm.forget tid m) part
    by true is = absurd (
        let here : tm.part_of tid (tm.forget tid m) ≡ Some part = subst (λ (u : Tid). tm.part_of u (tm.forget tid m) ≡ Some part) (same_is t tid is) now in
        let gone : tm.part_of tid (tm.forget tid m) ≡ None = forgotten tid m ordered in cc (here, gone))
    by false is = record { apart = is; was = sym (forget_apart t tid m is) ∙ now }

-- a test of what is known of it

pub told_is : (g : Participant → Bool) (t : Tid) (m : Manager) → tm.told_of t false g m ≡ true → (part : Participant) × ((tm.part_of t m ≡ Some part) × (g part ≡ true))
told_is g t m told = by (tm.part_of t m) refl
  where
    by : (o : Option Participant) → tm.part_of t m ≡ o → (part : Participant) × ((tm.part_of t m ≡ Some part) × (g part ≡ true))
    by None none = absurd (let never : tm.told_of t false g m ≡ false = ap (λ (o : Option Participant). elim o [ None ↦ false | Some p ↦ g p ]) none in cc (never, told))
    by (Some part) known = (part, (known, sym (ap (λ (o : Option Participant). elim o [ None ↦ false | Some p ↦ g p ]) known) ∙ told))

pub as_told : (g : Participant → Bool) (t : Tid) (m : Manager) (part : Participant) → tm.part_of t m ≡ Some part → g part ≡ true → tm.told_of t false g m ≡ true
as_told g t m part known is = ap (λ (o : Option Participant). elim o [ None ↦ false | Some p ↦ g p ]) known ∙ is

pub is_known : (t : Tid) (m : Manager) → tm.knows t m ≡ true → (part : Participant) × (tm.part_of t m ≡ Some part)
is_known t m knows = by (tm.part_of t m) refl
  where
    by : (o : Option Participant) → tm.part_of t m ≡ o → (part : Participant) × (tm.part_of t m ≡ Some part)
    by None none = absurd (let never : tm.knows t m ≡ false = ap (λ (o : Option Participant). is_some o) none in cc (never, knows))
    by (Some part) known = (part, known)

pub as_known : (t : Tid) (m : Manager) (part : Participant) → tm.part_of t m ≡ Some part → tm.knows t m ≡ true
as_known t m part known = ap (λ (o : Option Participant). is_some o) known

-- it is known still
pub changed_known : (t tid : Tid) (f : Participant → Participant) (m : Manager) (part : Participant) → tm.part_of t m ≡ Some part → tm.knows t (tm.with_part tid f m) ≡ true
changed_known t tid f m part known = by (same_tid t tid) refl
  where
    by : (b : Bool) → same_tid t tid ≡ b → tm.knows t (tm.with_part tid f m) ≡ true
    by true is = let same : t ≡ tid = same_is t tid is in
        subst (λ (u : Tid). tm.knows u (tm.with_part tid f m) ≡ true) (sym same) (as_known tid (tm.with_part tid f m) (f part) (lookup_changed (is_at (tid_cmp tid)) f m.known part (subst (λ (u : Tid). tm.part_of u m ≡ Some part) same known)))
    by false is = as_known t (tm.with_part tid f m) part (part_apart t tid f m is ∙ known)

pub put_known : (t tid : Tid) (new : Participant) (m : Manager) (part : Participant) → tm.part_of t m ≡ Some part → tm.knows t (tm.put_part tid new m) ≡ true
put_known t tid new m part known = by (same_tid t tid) refl
  where
    by : (b : Bool) → same_tid t tid ≡ b → tm.knows t (tm.put_part tid new m) ≡ true
    by true is = subst (λ (u : Tid). tm.knows u (tm.put_part tid new m) ≡ true) (sym (same_is t tid is)) (as_known tid (tm.put_part tid new m) new (lookup_put tid_cmp tid new (grind (arith, nat_tests)) m.known))
    by false is = as_known t (tm.put_part tid new m) part (put_apart t tid new m is ∙ known)
