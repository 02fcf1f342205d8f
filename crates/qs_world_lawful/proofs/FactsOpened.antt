-- What holds of a node by itself as an incarnation of it begins: with what its log says, and with what was kept for its clients.
use Rattle.qs_world_lawful.proofs.Words.{◌≡◌, ◌⊎◌, inl, inr, ℕ, ◌==◌, Bool, true, false, List, [], ◌∷◌, ◌++◌, length, fold, Option, Some, None, refl, sym, ap, subst, ◌∙◌, find, list_any, ◌&&◌, is_none, is_some, if◌then◌else◌, Global, same_tid-self, tid_total, same_tid, tid_cmp, NodeNo, ServerNo, Tid, same_node, has_label, is_outcome_of, KeptLabel, Decided, IsRising, put_rises, Record, close_outcome, close_tid, is_left_open, new_manager, outcome_in_log, take_up, Setting, committed_before, voted_before}
use Rattle.qs_world_lawful.proofs.Words.{new_participant, Manager, Participant, AreNumbered, HasNodeFacts, IsPart}
use Rattle.qs_base.specs.declared.identifiers.Outcome.TheVariants as outcomes
use Rattle.qs_ops.specs.declared.answer.Cause.TheVariants as causes
use Rattle.qs_node_kept.specs.declared.kept.Kept.{Kept}
use Rattle.qs_record.specs.declared.record.Record.TheVariants as records
use Rattle.qs_restart.specs.declared.recovered.Recovered.{Recovered}
use Rattle.qs_node_step.specs.Opening.{opened_manager, opened_node}
use Rattle.qs_tm.specs.Manager as tm
use Rattle.qs_world_lawful.specs.NodeFacts.{AreHomed, IsOf, IsSetIn}
use Rattle.qs_world_lawful.proofs.Apart.{Apart, same_or_apart}
use Rattle.qs_world_lawful.proofs.Faces.{put_apart}
use Rattle.qs_world_lawful.proofs.FactsKept.{each_changed, none_wait, room_on}
use Rattle.qs_world_lawful.proofs.Marks.{changed_rises, put_there}
use Rattle.qs_world_lawful.proofs.Truths.{clash, of_some, same_self}
use Rattle.qs_base_lemmas.proofs.Tests.{none_some}

-- ---- what is taken up from the log

record IsUp (s : Setting) (m : Manager) : Type 0 where
  room : IsOf s m
  rising : IsRising tid_cmp m.known
  parts : (tid : Tid) (part : Participant) → tm.part_of tid m ≡ Some part → IsPart s 0 tid part

-- what is of its home, has its places, and is numbered
record IsPlaced (s : Setting) (tid : Tid) (part : Participant) : Type 0 where
  homed : part.engage.home ≡ same_node tid.home s.node
  slots : length part.engage.peers ≡ 16
  numbered : AreNumbered s.node 0 part.engage part.waiting

-- what is put is known, and all else stays
put_parts : (P : Tid → Participant → Type 0) (tid : Tid) (part : Participant) (m : Manager) → P tid part → ((t : Tid) (p : Participant) → tm.part_of t m ≡ Some p → P t p) → (t : Tid) (p : Participant) → tm.part_of t (tm.put_part tid part m) ≡ Some p → P t p
put_parts P tid part m new old t p known = by (same_or_apart tid t)
  where
    by : (tid ≡ t) ⊎ Apart tid t → P t p
    by (inl e) = subst (λ (x : Tid). P x p) e (subst (P tid) (of_some (sym (put_there tid part m) ∙ subst (λ (x : Tid). tm.part_of x (tm.put_part tid part m) ≡ Some p) (sym e) known)) new)
    by (inr far) = old t p (sym (put_apart tid t part m far) ∙ known)

module _ (s : Setting) (tid : Tid) (m : Manager) (h : IsUp s m) where
  home_is : tm.is_home tid m ≡ same_node tid.home s.node
  home_is = ap (same_node tid.home) h.room.at

  -- one that was heard of
  record IsMet (n : Manager) : Type 0 where
    room : IsOf s n
    rising : IsRising tid_cmp n.known
    others : (t : Tid) (p : Participant) → Apart tid t → tm.part_of t n ≡ Some p → IsPart s 0 t p
    its : (p : Participant) → tm.part_of tid n ≡ Some p → IsPlaced s tid p

  met : IsMet (tm.meet tid m)
  met = by (tm.part_of tid m) refl
    where
      by : (o : Option Participant) → tm.part_of tid m ≡ o → IsMet (if is_some o then m else tm.put_part tid (new_participant (tm.is_home tid m)) m)
      by (Some part) known = record { room = h.room; rising = h.rising; others = λ t p far is. h.parts t p is; its = λ p is. record { homed = (h.parts tid p is).homed; slots = (h.parts tid p is).slots; numbered = (h.parts tid p is).numbered } }
      by None unknown = record {
        room = room_on s m _ h.room;
        rising = put_rises tid_cmp tid_total tid (new_participant (tm.is_home tid m)) m.known h.rising;
        others = λ t p far is. h.parts t p (sym (put_apart tid t (new_participant (tm.is_home tid m)) m far) ∙ is);
        its = λ p is. subst (IsPlaced s tid) (of_some (sym (put_there tid (new_participant (tm.is_home tid m)) m) ∙ is)) (record { homed = home_is; slots = refl; numbered = none_wait s.node 0 _ });
      }

  vote_up : (server : ServerNo) (covers : ℕ) → IsUp s (tm.take_up_vote tid server covers m)
  vote_up server covers = record {
    room = room_on s (tm.meet tid m) _ met.room;
    rising = changed_rises tid (voted_before (tm.is_home tid m) server covers) (tm.meet tid m) met.rising;
    parts = each_changed tid (voted_before (tm.is_home tid m) server covers) (tm.meet tid m) (IsPart s 0) met.others (λ p known. record {
      homed = (met.its p known).homed;
      slots = (met.its p known).slots;
      logged = λ e. refl;
      began = λ home unknown. absurd (decided p (tm.is_home tid m) (sym home_is) ((met.its p known).homed) home unknown);
      numbered = (met.its p known).numbered;
    });
  }
    where
      decided : (p : Participant) (b : Bool) → same_node tid.home s.node ≡ b → p.engage.home ≡ same_node tid.home s.node → p.engage.home ≡ true → (voted_before b server covers p).outcome ≡ None → ⊥
      decided p true is homed home unknown = cc unknown
      decided p false is homed home unknown = clash (sym is ∙ (sym homed ∙ home))

  commit_up : (told : List NodeNo) → IsUp s (tm.take_up_commit tid told m)
  commit_up told = by (length told == 0)
    where
      by : (b : Bool) → IsUp s (if b then m else tm.put_part tid (committed_before (tm.is_home tid m) told) m)
      by true = h
      by false = record {
        room = room_on s m _ h.room;
        rising = put_rises tid_cmp tid_total tid (committed_before (tm.is_home tid m) told) m.known h.rising;
        parts = put_parts (IsPart s 0) tid (committed_before (tm.is_home tid m) told) m (record { homed = home_is; slots = refl; logged = λ e. absurd (cc e); began = λ home unknown. absurd (cc unknown); numbered = none_wait s.node 0 _ }) h.parts;
      }

all_up : (s : Setting) (rs : List Record) (m : Manager) → IsUp s m → IsUp s (fold take_up m rs)
all_up s [] m h = h
all_up s (records.Prepare tid server covers changes ∷ rs) m h = all_up s rs (tm.take_up_vote tid server covers m) (vote_up s tid m h server covers)
all_up s (records.Commit tid told ∷ rs) m h = all_up s rs (tm.take_up_commit tid told m) (commit_up s tid m h told)
all_up s (records.Aborted tid ∷ rs) m h = all_up s rs m h
all_up s (records.End tid ∷ rs) m h = all_up s rs m h

-- ---- what was kept for clients: an outcome stands for each transaction that began here under a label

end_more : (tid : Tid) (xs : List Decided) (x : Decided) → is_some (find (is_outcome_of tid) xs) ≡ true → is_some (find (is_outcome_of tid) (xs ++ x ∷ [])) ≡ true
end_more tid [] x is = absurd (cc is)
end_more tid (y ∷ ys) x is = by (is_outcome_of tid y) is (end_more tid ys x)
  where
    by : (b : Bool) → is_some (if b then Some y else find (is_outcome_of tid) ys) ≡ true → (is_some (find (is_outcome_of tid) ys) ≡ true → is_some (find (is_outcome_of tid) (ys ++ x ∷ [])) ≡ true) → is_some (if b then Some y else find (is_outcome_of tid) (ys ++ x ∷ [])) ≡ true
    by true is rest = refl
    by false is rest = rest is

end_put : (tid : Tid) (xs : List Decided) (x : Decided) → is_outcome_of tid x ≡ true → is_some (find (is_outcome_of tid) (xs ++ x ∷ [])) ≡ true
end_put tid [] x its = rw its refl
end_put tid (y ∷ ys) x its = by (is_outcome_of tid y) (end_put tid ys x its)
  where
    by : (b : Bool) → is_some (find (is_outcome_of tid) (ys ++ x ∷ [])) ≡ true → is_some (if b then Some y else find (is_outcome_of tid) (ys ++ x ∷ [])) ≡ true
    by true rest = refl
    by false rest = rest

module _ (node : NodeNo) (committed : List Tid) where
  its_end : (tid : Tid) → is_outcome_of tid (outcome_in_log committed tid) ≡ true
  its_end tid = by (list_any (same_tid tid) committed)
    where
      by : (b : Bool) → is_outcome_of tid (if b then record { tid = tid; outcome = outcomes.Commit; cause = None } else record { tid = tid; outcome = outcomes.Abort; cause = Some (causes.Home tid.inc) }) ≡ true
      by true = same_tid-self tid
      by false = same_tid-self tid

  -- what has an end keeps it
  closed_still : (tid : Tid) (outcomes : List Decided) (o : Option Tid) → is_some (find (is_outcome_of tid) outcomes) ≡ true → is_some (find (is_outcome_of tid) (close_tid node committed outcomes o)) ≡ true
  closed_still tid outcomes None is = is
  closed_still tid outcomes (Some t) is = by (is_left_open node outcomes t)
    where
      by : (b : Bool) → is_some (find (is_outcome_of tid) (if b then outcomes ++ outcome_in_log committed t ∷ [] else outcomes)) ≡ true
      by true = end_more tid outcomes (outcome_in_log committed t) is
      by false = is

  closed_all : (tid : Tid) (labels : List KeptLabel) (outcomes : List Decided) → is_some (find (is_outcome_of tid) outcomes) ≡ true → is_some (find (is_outcome_of tid) (fold (close_outcome node committed) outcomes labels)) ≡ true
  closed_all tid [] outcomes is = is
  closed_all tid (begun ∷ labels) outcomes is = closed_all tid labels (close_outcome node committed outcomes begun) (closed_still tid outcomes begun.tid is)

  closed_one : (tid : Tid) (outcomes : List Decided) → same_node tid.home node ≡ true → is_some (find (is_outcome_of tid) (close_tid node committed outcomes (Some tid))) ≡ true
  closed_one tid outcomes home = by (find (is_outcome_of tid) outcomes) refl
    where
      by : (o : Option Decided) → find (is_outcome_of tid) outcomes ≡ o → is_some (find (is_outcome_of tid) (if same_node tid.home node && is_none (find (is_outcome_of tid) outcomes) then outcomes ++ outcome_in_log committed tid ∷ [] else outcomes)) ≡ true
      by None is = rw (home, is) (end_put tid outcomes (outcome_in_log committed tid) (its_end tid))
      by (Some decided) is = rw (home, is) (ap (λ (d : Option Decided). is_some d) is)

  -- each label's transaction that is of this node has an end
  closed_label : (test : KeptLabel → Bool) (labels : List KeptLabel) (outcomes : List Decided) (begun : KeptLabel) (tid : Tid) → find test labels ≡ Some begun → begun.tid ≡ Some tid → same_node tid.home node ≡ true
      → is_some (find (is_outcome_of tid) (fold (close_outcome node committed) outcomes labels)) ≡ true
  closed_label test [] outcomes begun tid found of home = absurd (cc found)
  closed_label test (x ∷ xs) outcomes begun tid found of home = by (test x) found (λ f. closed_label test xs (close_outcome node committed outcomes x) begun tid f of home)
    where
      by : (b : Bool) → (if b then Some x else find test xs) ≡ Some begun → (find test xs ≡ Some begun → is_some (find (is_outcome_of tid) (fold (close_outcome node committed) (close_outcome node committed outcomes x) xs)) ≡ true)
          → is_some (find (is_outcome_of tid) (fold (close_outcome node committed) (close_outcome node committed outcomes x) xs)) ≡ true
      by true found rest = closed_all tid xs (close_outcome node committed outcomes x) (subst (λ (o : Option Tid). is_some (find (is_outcome_of tid) (close_tid node committed outcomes o)) ≡ true) (sym (ap (λ (b : KeptLabel). b.tid) (of_some found) ∙ of)) (closed_one tid outcomes home))
      by false found rest = rest found

-- ---- an incarnation begins

pub opened_facts : (alloc : Global) (s : Setting) (found : Recovered) (kept : Kept) → IsSetIn s → AreHomed s.node kept → HasNodeFacts (opened_node alloc s found kept)
opened_facts alloc s found kept set homed = record {
  setting = set;
  room = up.room;
  rising = up.rising;
  parts = up.parts;
  labels = record {
    homed = homed;
    runs = λ label begun tid client is of owned none. absurd (none_some (find (is_outcome_of tid) (fold (close_outcome s.node found.committed) kept.outcomes kept.labels)) none (closed_label s.node found.committed (has_label label) kept.labels kept.outcomes begun tid is of (ap (λ (n : NodeNo). same_node n s.node) (homed label begun tid client is of owned) ∙ same_self s.node.0)));
  };
  commands = tt;
}
  where
    up : IsUp s (opened_manager alloc s found)
    up = all_up s (found.in_doubt ++ found.untold) (new_manager alloc s) (record { room = record { at = refl; in_inc = refl; extra = refl; keep = refl }; rising = tt; parts = λ tid part known. absurd (cc known) })
