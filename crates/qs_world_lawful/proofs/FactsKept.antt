-- What holds of a node by itself through each thing that a rule does to it.
use Rattle.qs_world_lawful.proofs.Words.{◌≡◌, ◌⊎◌, inl, inr, ℕ, Bool, true, false, List, [], ◌∷◌, length, Option, Some, None, refl, sym, ap, subst, ◌∙◌, is_at, find, lookup, remove_entry, is_some, if◌then◌else◌, tid_total, tid_cmp, ClientNo, NodeNo, Outcome, Tid, same_node, Engage, has_label, is_outcome_of, KeptLabel, at_exact, put_rises, remove_rises, removed, Setting, OpenCommand, new_participant, Manager, Participant, AreNumbered, HasFacts, IsPart, IsRunning}
use Rattle.qs_node_kept.specs.declared.kept.Kept.{Kept}
use Rattle.qs_tm.specs.Manager as tm
use Rattle.qs_tm.specs.Outcomes as outcome_rules
use Rattle.qs_tm.specs.Outcomes.{aborted_participant}
use Rattle.qs_world_lawful.specs.NodeFacts.{IsOf}
use Rattle.qs_world_lawful.proofs.Apart.{Apart, same_or_apart}
use Rattle.qs_world_lawful.proofs.Faces.{part_apart, part_changed, part_unknown, put_apart}
use Rattle.qs_world_lawful.proofs.Marks.{changed_rises, put_there}
use Rattle.qs_world_lawful.proofs.Truths.{clash, of_some, same_self}

abbrev pub Commands : Type 0
Commands = List (ClientNo × OpenCommand)

-- ---- the transactions that are known

-- a rule that leaves of a transaction its home's engagement, the places of its peers, its outcome, that its log says no less, and that what waits is numbered
pub record IsQuiet (f : Participant → Participant) : Type 0 where
  pub home : (p : Participant) → (f p).engage.home ≡ p.engage.home
  pub slots : (p : Participant) → length (f p).engage.peers ≡ length p.engage.peers
  pub outcome : (p : Participant) → (f p).outcome ≡ p.outcome
  pub logged : (p : Participant) → (p.log.prepared ≡ true → p.log.unended ≡ true) → (f p).log.prepared ≡ true → (f p).log.unended ≡ true
  pub numbers : (p : Participant) (here : NodeNo) (local : ℕ) → AreNumbered here local p.engage p.waiting → AreNumbered here local (f p).engage (f p).waiting

pub room_on : (s : Setting) (m : Manager) (known : List (Tid × Participant)) → IsOf s m → IsOf s (record m { known = known })
room_on s m known h = record { at = h.at; in_inc = h.in_inc; extra = h.extra; keep = h.keep }

-- what is known after a change of one
module _ (tid : Tid) (f : Participant → Participant) (m : Manager) where
  pub each_changed : (P : Tid → Participant → Type 0) → ((t : Tid) (p : Participant) → Apart tid t → tm.part_of t m ≡ Some p → P t p) → ((p : Participant) → tm.part_of tid m ≡ Some p → P tid (f p)) → (t : Tid) (p : Participant) → tm.part_of t (tm.with_part tid f m) ≡ Some p → P t p
  each_changed P old own t p known = by (same_or_apart tid t)
    where
      of_own : (o : Option Participant) → tm.part_of tid m ≡ o → tm.part_of tid (tm.with_part tid f m) ≡ Some p → P tid p
      of_own None was is = absurd (cc (sym (part_unknown tid f m was) ∙ is))
      of_own (Some q) was is = subst (P tid) (of_some (sym (part_changed tid f m q was) ∙ is)) (own q was)

      by : (tid ≡ t) ⊎ Apart tid t → P t p
      by (inl e) = subst (λ (x : Tid). P x p) e (of_own (tm.part_of tid m) refl (subst (λ (x : Tid). tm.part_of x (tm.with_part tid f m) ≡ Some p) (sym e) known))
      by (inr far) = old t p far (sym (part_apart tid t f m far) ∙ known)

  -- and what ran runs on, where the change leaves it undecided
  pub runs_changed : (t : Tid) → ((p : Participant) → tid ≡ t → p.outcome ≡ None → (f p).outcome ≡ None) → IsRunning m t → IsRunning (tm.with_part tid f m) t
  runs_changed t still r = by (same_or_apart tid t)
    where
      by : (tid ≡ t) ⊎ Apart tid t → IsRunning (tm.with_part tid f m) t
      by (inl e) = record { part = f r.part; known = subst (λ (x : Tid). tm.part_of x (tm.with_part tid f m) ≡ Some (f r.part)) e (part_changed tid f m r.part (subst (λ (x : Tid). tm.part_of x m ≡ Some r.part) (sym e) r.known)); undecided = still r.part e r.undecided }
      by (inr far) = record { part = r.part; known = part_apart tid t f m far ∙ r.known; undecided = r.undecided }

-- what is not removed is found as before
removed_apart : {V : Type 0} (p q : Tid → Bool) → ((x : Tid) → q x ≡ true → p x ≡ false) → (es : List (Tid × V)) → lookup q (remove_entry p es) ≡ lookup q es
removed_apart p q far [] = refl
removed_apart {V} p q far (e ∷ es) = by (p e.0) (q e.0) refl refl (removed_apart p q far es)
  where
    by : (a b : Bool) → p e.0 ≡ a → q e.0 ≡ b → lookup q (remove_entry p es) ≡ lookup q es → lookup q (remove_entry p (e ∷ es)) ≡ lookup q (e ∷ es)
    by true true is has rest = absurd (clash (sym (far e.0 has) ∙ is))
    by true false is has rest = rw (is, has) refl
    by false true is has rest = rw (is, has) refl
    by false false is has rest = rw (is, has) rest

-- nothing waits
pub none_wait : (here : NodeNo) (local : ℕ) (engage : Engage) → AreNumbered here local engage []
none_wait here local engage = record { apart = tt; given = tt }

module _ (s : Setting) (k : Kept) (c : Commands) (local : Tid → ℕ) where
  -- ---- a quiet change

  quiet_part : (f : Participant → Participant) → IsQuiet f → (tid : Tid) (p : Participant) → IsPart s (local tid) tid p → IsPart s (local tid) tid (f p)
  quiet_part f q tid p h = record {
    homed = q.home p ∙ h.homed;
    slots = q.slots p ∙ h.slots;
    logged = q.logged p h.logged;
    began = λ home unknown. h.began (sym (q.home p) ∙ home) (sym (q.outcome p) ∙ unknown);
    numbered = q.numbers p s.node (local tid) h.numbered;
  }

  -- a change that leaves its outcome, and what else holds of it with so many requests to servers here
  pub part_facts : (tid : Tid) (f : Participant → Participant) (m : Manager) (now : Tid → ℕ) → ((t : Tid) → Apart tid t → now t ≡ local t) → ((p : Participant) → tm.part_of tid m ≡ Some p → IsPart s (local tid) tid p → IsPart s (now tid) tid (f p))
      → ((p : Participant) → (f p).outcome ≡ p.outcome) → HasFacts s m k c local → HasFacts s (tm.with_part tid f m) k c now
  part_facts tid f m now same own outcome h = record {
    setting = h.setting;
    room = room_on s m _ h.room;
    rising = changed_rises tid f m h.rising;
    parts = each_changed tid f m (λ (t : Tid) (p : Participant). IsPart s (now t) t p) (λ t p far known. subst (λ (k : ℕ). IsPart s k t p) (sym (same t far)) (h.parts t p known)) (λ p known. own p known (h.parts tid p known));
    labels = record { homed = h.labels.homed; runs = λ label begun t client found of owned kept. runs_changed tid f m t (λ p e unknown. outcome p ∙ unknown) (h.labels.runs label begun t client found of owned kept) };
    commands = h.commands;
  }

  pub quiet_facts : (tid : Tid) (f : Participant → Participant) → IsQuiet f → (m : Manager) → HasFacts s m k c local → HasFacts s (tm.with_part tid f m) k c local
  quiet_facts tid f q m h = part_facts tid f m local (λ t far. refl) (λ p known its. quiet_part f q tid p its) q.outcome h

  -- ---- an outcome is taken in elsewhere than at the home

  pub outcome_facts : (tid : Tid) (outcome : Outcome) (m : Manager) → same_node tid.home s.node ≡ false → HasFacts s m k c local → HasFacts s (tm.took_outcome tid outcome m) k c local
  outcome_facts tid outcome m away h = record {
    setting = h.setting;
    room = room_on s m _ h.room;
    rising = changed_rises tid (outcome_rules.took_outcome outcome) m h.rising;
    parts = each_changed tid (outcome_rules.took_outcome outcome) m (λ (t : Tid) (p : Participant). IsPart s (local t) t p) (λ t p far known. h.parts t p known) (λ p known. record { homed = (h.parts tid p known).homed; slots = (h.parts tid p known).slots; logged = (h.parts tid p known).logged; began = λ home unknown. absurd (cc unknown); numbered = (h.parts tid p known).numbered });
    labels = record { homed = h.labels.homed; runs = λ label begun t client found of owned kept. runs_changed tid (outcome_rules.took_outcome outcome) m t (λ p e unknown. absurd (not_home t e (h.labels.homed label begun t client found of owned))) (h.labels.runs label begun t client found of owned kept) };
    commands = h.commands;
  }
    where
      not_home : (t : Tid) → tid ≡ t → t.home ≡ s.node → ⊥
      not_home t e home = clash (sym away ∙ (ap (λ (x : Tid). same_node x.home s.node) e ∙ (ap (λ (n : NodeNo). same_node n s.node) home ∙ same_self s.node.0)))

  -- ---- one more is known

  pub put_facts : (tid : Tid) (part : Participant) (m : Manager) → IsPart s (local tid) tid part → tm.part_of tid m ≡ None → HasFacts s m k c local → HasFacts s (tm.put_part tid part m) k c local
  put_facts tid part m new unknown h = record {
    setting = h.setting;
    room = room_on s m _ h.room;
    rising = put_rises tid_cmp tid_total tid part m.known h.rising;
    parts = λ t p known. parts_of t p known (same_or_apart tid t);
    labels = record { homed = h.labels.homed; runs = λ label begun t client found of owned kept. still t (h.labels.runs label begun t client found of owned kept) (same_or_apart tid t) };
    commands = h.commands;
  }
    where
      parts_of : (t : Tid) (p : Participant) → tm.part_of t (tm.put_part tid part m) ≡ Some p → (tid ≡ t) ⊎ Apart tid t → IsPart s (local t) t p
      parts_of t p known (inl e) = subst (λ (x : Tid). IsPart s (local x) x p) e (subst (IsPart s (local tid) tid) (of_some (sym (put_there tid part m) ∙ subst (λ (x : Tid). tm.part_of x (tm.put_part tid part m) ≡ Some p) (sym e) known)) new)
      parts_of t p known (inr far) = h.parts t p (sym (put_apart tid t part m far) ∙ known)

      still : (t : Tid) → IsRunning m t → (tid ≡ t) ⊎ Apart tid t → IsRunning (tm.put_part tid part m) t
      still t r (inl e) = absurd (cc (sym unknown ∙ subst (λ (x : Tid). tm.part_of x m ≡ Some r.part) (sym e) r.known))
      still t r (inr far) = record { part = r.part; known = put_apart tid t part m far ∙ r.known; undecided = r.undecided }

  pub meet_facts : (tid : Tid) (m : Manager) → same_node tid.home s.node ≡ false → HasFacts s m k c local → HasFacts s (tm.meet tid m) k c local
  meet_facts tid m away h = by (tm.part_of tid m) refl
    where
      home_is : tm.is_home tid m ≡ same_node tid.home s.node
      home_is = ap (same_node tid.home) h.room.at

      by : (o : Option Participant) → tm.part_of tid m ≡ o → HasFacts s (if is_some o then m else tm.put_part tid (new_participant (tm.is_home tid m)) m) k c local
      by None unknown = put_facts tid (new_participant (tm.is_home tid m)) m (record { homed = home_is; slots = refl; logged = λ e. absurd (cc e); began = λ home open_still. absurd (clash (sym (home_is ∙ away) ∙ home)); numbered = none_wait s.node (local tid) _ }) unknown h
      by (Some part) known = h

  pub abort_facts : (tid : Tid) (m : Manager) → HasFacts s m k c local → HasFacts s (tm.keep_abort tid m) k c local
  abort_facts tid m h = by (tm.part_of tid m) refl
    where
      by : (o : Option Participant) → tm.part_of tid m ≡ o → HasFacts s (if is_some o then m else tm.put_part tid (aborted_participant (tm.is_home tid m)) m) k c local
      by None unknown = put_facts tid (aborted_participant (tm.is_home tid m)) m (record { homed = ap (same_node tid.home) h.room.at; slots = refl; logged = λ e. absurd (cc e); began = λ home open_still. absurd (cc open_still); numbered = none_wait s.node (local tid) _ }) unknown h
      by (Some part) known = h

  -- ---- one is forgotten, that no client here owns undecided

  pub forget_facts : (tid : Tid) (m : Manager) → ((label : List ℕ) (begun : KeptLabel) (client : ClientNo) → find (has_label label) k.labels ≡ Some begun → begun.tid ≡ Some tid → begun.owner ≡ Some client → find (is_outcome_of tid) k.outcomes ≡ None → ⊥)
      → HasFacts s m k c local → HasFacts s (tm.forget tid m) k c local
  forget_facts tid m unowned h = record {
    setting = h.setting;
    room = room_on s m _ h.room;
    rising = remove_rises tid_cmp (is_at (tid_cmp tid)) m.known h.rising;
    parts = λ t p known. parts_of t p known (same_or_apart tid t);
    labels = record { homed = h.labels.homed; runs = λ label begun t client found of owned kept. still t (h.labels.runs label begun t client found of owned kept) (same_or_apart tid t) (λ e. unowned label begun client found (of ∙ ap Some (sym e)) owned (ap (λ (x : Tid). find (is_outcome_of x) k.outcomes) e ∙ kept)) };
    commands = h.commands;
  }
    where
      apart_part : (t : Tid) → Apart tid t → tm.part_of t (tm.forget tid m) ≡ tm.part_of t m
      apart_part t far = removed_apart (is_at (tid_cmp tid)) (is_at (tid_cmp t)) far.keys m.known

      parts_of : (t : Tid) (p : Participant) → tm.part_of t (tm.forget tid m) ≡ Some p → (tid ≡ t) ⊎ Apart tid t → IsPart s (local t) t p
      parts_of t p known (inl e) = absurd (cc (sym (removed tid_cmp at_exact tid m.known h.rising) ∙ subst (λ (x : Tid). tm.part_of x (tm.forget tid m) ≡ Some p) (sym e) known))
      parts_of t p known (inr far) = h.parts t p (sym (apart_part t far) ∙ known)

      still : (t : Tid) → IsRunning m t → (tid ≡ t) ⊎ Apart tid t → (tid ≡ t → ⊥) → IsRunning (tm.forget tid m) t
      still t r (inl e) other = absurd (other e)
      still t r (inr far) other = record { part = r.part; known = apart_part t far ∙ r.known; undecided = r.undecided }
