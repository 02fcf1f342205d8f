-- Records that a step appends stand in turn, as transactions become known, decided and forgotten.
use Rattle.qs_world_refine.proofs.Words.{◌≡◌, ℕ, ◌&&◌, ◌||◌, ◌⊎◌, inl, inr, not, Bool, true, false, List, [], ◌∷◌, ◌++◌, Option, Some, None, refl, sym, ap, subst, ◌∙◌, arith, is_at, list_any, nat_tests, list_any-append, same_tid, tid_cmp, NodeNo, Tid, same_node, no_nodes, Nodes, Record, Participant, was_committed, log, log_if, tid_of, Work, part_of, with_manager, is_loose_of, is_forced_of, are_in_turn, node_no, or_last, or_first}
use Rattle.qs_base.specs.declared.identifiers.Outcome.{Outcome}
use Rattle.qs_base.specs.declared.identifiers.Outcome.TheVariants as outcomes
use Rattle.qs_engage.specs.Nodes.{has_node}
use Rattle.qs_record.specs.declared.record.Record.TheVariants as records
use Rattle.qs_tm.specs.Manager as tm
use Rattle.qs_world_refine.proofs.Maps.{lookup_put, lookup_changed}
use Rattle.qs_world_refine.proofs.Others.{put_apart}
use Rattle.qs_world_refine.proofs.SaysOn.{append_three, told_changed}
use Rattle.qs_world_refine.proofs.SoundKnown.{same_is}
use Rattle.qs_world_refine.proofs.SoundParts.{and_both}
use Rattle.qs_world_refine.proofs.StartWorlds.{alike_at}
use Rattle.qs_world_refine.proofs.TurnOn.{Case, Fate, KeptSo, kept_still, NoLoose, Turned, TurnedAs, TurnsOn, abort_apart, apart_same, became, fate_at, fate_found, fate_of, is_aborted_of, is_end_of, on_itself, open_apart, same_acks, same_on, same_outcome}

-- ---- a record is appended

pub turn_more : (t : Tid) (rs : List Record) (rec : Record) → are_in_turn t rs ≡ true → (is_forced_of t rec ≡ true → list_any (is_loose_of t) rs ≡ false) → are_in_turn t (rs ++ rec ∷ []) ≡ true
turn_more t [] rec is may = last (is_loose_of t rec)
  where
    last : (b : Bool) → ((not b || true) && true) ≡ true
    last true = refl
    last false = refl
turn_more t (r ∷ rs) rec is may = by (is_forced_of t rec) refl (turn_more t rs rec both.1 (λ forced. or_last (is_loose_of t r) (list_any (is_loose_of t) rs) (may forced)))
  where
    both : ((not (is_loose_of t r) || not (list_any (is_forced_of t) rs)) ≡ true) × (are_in_turn t rs ≡ true)
    both = and_both (not (is_loose_of t r) || not (list_any (is_forced_of t) rs)) (are_in_turn t rs) is

    any_is : list_any (is_forced_of t) (rs ++ rec ∷ []) ≡ (list_any (is_forced_of t) rs || (is_forced_of t rec || false))
    any_is = list_any-append (is_forced_of t) rs (rec ∷ [])

    put : (l f g : Bool) → g ≡ false → (not l || not f) ≡ true → (not l || not (f || (g || false))) ≡ true
    put true true g none so = absurd (cc (so))
    put true false g none so = rw none refl
    put false f g none so = refl

    off : (l x : Bool) → l ≡ false → (not l || x) ≡ true
    off l x none = rw none refl

    by : (b : Bool) → is_forced_of t rec ≡ b → are_in_turn t (rs ++ rec ∷ []) ≡ true → ((not (is_loose_of t r) || not (list_any (is_forced_of t) (rs ++ rec ∷ []))) && are_in_turn t (rs ++ rec ∷ [])) ≡ true
    by true forced more = both_and (off (is_loose_of t r) (not (list_any (is_forced_of t) (rs ++ rec ∷ []))) (or_first (is_loose_of t r) (list_any (is_loose_of t) rs) (may forced))) more
      where
        both_and : {a b : Bool} → a ≡ true → b ≡ true → (a && b) ≡ true
        both_and x y = rw (x, y) refl
    by false forced more = both_and (rw any_is (put (is_loose_of t r) (list_any (is_forced_of t) rs) (is_forced_of t rec) forced both.0)) more
      where
        both_and : {a b : Bool} → a ≡ true → b ≡ true → (a && b) ≡ true
        both_and x y = rw (x, y) refl

-- what a record of the transaction asks as it is appended
abbrev pub MayEnter : Case → Record → Work → Type 0
MayEnter k (records.Prepare tid server covers changes) work = NoLoose k work.out.records
MayEnter k (records.Commit tid told) work = NoLoose k work.out.records
MayEnter k (records.Aborted tid) work = (acks : Nodes) × (fate_at k.tid work.node ≡ became (Some outcomes.Abort) acks)
MayEnter k (records.End tid) work = (k.ends ≡ true) × ((same_node k.tid.home work.node.setting.node ≡ true) × ((acks : Nodes) → fate_at k.tid work.node ≡ became None acks → ⊥))

-- what is kept as committed does not change
fate_logged : (t : Tid) (rec : Record) (work : Work) → fate_at t (log rec work).node ≡ fate_at t work.node
fate_logged t rec work = told_changed None fate_of (is_at (tid_cmp (tid_of rec))) (is_at (tid_cmp t)) (Rattle.qs_tm.specs.Outcomes.logged rec) (λ part. refl) work.node.manager.known

pub fate_logged_if : (t : Tid) (rec : Option Record) (work : Work) → fate_at t (log_if rec work).node ≡ fate_at t work.node
fate_logged_if t None work = refl
fate_logged_if t (Some rec) work = fate_logged t rec work

pub log_kept : (k : Case) (rec : Record) (work : Work) → KeptSo k work → KeptSo k (log rec work)
log_kept k rec work = kept_still k work (log rec work) refl (fate_logged k.tid rec work)

pub log_if_kept : (k : Case) (rec : Option Record) (work : Work) → KeptSo k work → KeptSo k (log_if rec work)
log_if_kept k None work is = is
log_if_kept k (Some rec) work is = log_kept k rec work is

module _ (k : Case) (rec : Record) (work : Work) (may : same_tid k.tid (tid_of rec) ≡ true → MayEnter k rec work) where
  logged_fate : fate_at k.tid (log rec work).node ≡ fate_at k.tid work.node
  logged_fate = fate_logged k.tid rec work

  all_is : k.before ++ (work.out.records ++ rec ∷ []) ≡ (k.before ++ work.out.records) ++ rec ∷ []
  all_is = sym (append_three k.before work.out.records (rec ∷ []))

  any_is : (p : Record → Bool) → list_any p (k.before ++ (work.out.records ++ rec ∷ [])) ≡ (list_any p (k.before ++ work.out.records) || (p rec || false))
  any_is p = ap (list_any p) all_is ∙ list_any-append p (k.before ++ work.out.records) (rec ∷ [])

  -- it stood before, or is the last
  which : (a b : Bool) → (a || (b || false)) ≡ true → (a ≡ true) ⊎ (b ≡ true)
  which true b is = inl refl
  which false true is = inr refl
  which false false is = absurd (cc (is))

  last_aborted : (r : Record) → is_aborted_of k.tid r ≡ true → (same_tid k.tid (tid_of r) ≡ true → MayEnter k r work) → (acks : Nodes) × (fate_at k.tid work.node ≡ became (Some outcomes.Abort) acks)
  last_aborted (records.Prepare tid server covers changes) is may = absurd (cc (is))
  last_aborted (records.Commit tid told) is may = absurd (cc (is))
  last_aborted (records.Aborted tid) is may = may is
  last_aborted (records.End tid) is may = absurd (cc (is))

  last_end : (r : Record) → is_end_of k.tid r ≡ true → (same_tid k.tid (tid_of r) ≡ true → MayEnter k r work) → (k.ends ≡ true) × ((same_node k.tid.home work.node.setting.node ≡ true) × ((acks : Nodes) → fate_at k.tid work.node ≡ became None acks → ⊥))
  last_end (records.Prepare tid server covers changes) is may = absurd (cc (is))
  last_end (records.Commit tid told) is may = absurd (cc (is))
  last_end (records.Aborted tid) is may = absurd (cc (is))
  last_end (records.End tid) is may = may is

  last_forced : (r : Record) → is_forced_of k.tid r ≡ true → (same_tid k.tid (tid_of r) ≡ true → MayEnter k r work) → NoLoose k work.out.records
  last_forced (records.Prepare tid server covers changes) is may = may (and_both (same_tid k.tid tid) true is).0
  last_forced (records.Commit tid told) is may = may (and_both (same_tid k.tid tid) true is).0
  last_forced (records.Aborted tid) is may = absurd (let off = (and_both (same_tid k.tid tid) false is).1 in cc (off))
  last_forced (records.End tid) is may = absurd (let off = (and_both (same_tid k.tid tid) false is).1 in cc (off))

  entered : Turned k work → TurnedAs k work.node.setting.node (fate_at k.tid work.node) (work.out.records ++ rec ∷ [])
  entered is = record {
    aborted = λ has. abort (which (list_any (is_aborted_of k.tid) (k.before ++ work.out.records)) (is_aborted_of k.tid rec) (sym (any_is (is_aborted_of k.tid)) ∙ has));
    ended = λ has. end (which (list_any (is_end_of k.tid) (k.before ++ work.out.records)) (is_end_of k.tid rec) (sym (any_is (is_end_of k.tid)) ∙ has));
    ends = λ has. more (which (list_any (is_end_of k.tid) work.out.records) (is_end_of k.tid rec) (sym (list_any-append (is_end_of k.tid) work.out.records (rec ∷ [])) ∙ has));
    turn = ap (are_in_turn k.tid) all_is ∙ turn_more k.tid (k.before ++ work.out.records) rec is.turn (λ forced. last_forced rec forced may);
    learnt = is.learnt;
    acked = is.acked;
  }
    where
      abort : (list_any (is_aborted_of k.tid) (k.before ++ work.out.records) ≡ true) ⊎ (is_aborted_of k.tid rec ≡ true) → (acks : Nodes) × (fate_at k.tid work.node ≡ became (Some outcomes.Abort) acks)
      abort (inl has) = is.aborted has
      abort (inr has) = last_aborted rec has may

      end : (list_any (is_end_of k.tid) (k.before ++ work.out.records) ≡ true) ⊎ (is_end_of k.tid rec ≡ true) → (same_node k.tid.home work.node.setting.node ≡ true) × ((acks : Nodes) → fate_at k.tid work.node ≡ became None acks → ⊥)
      end (inl has) = is.ended has
      end (inr has) = (last_end rec has may).1

      more : (list_any (is_end_of k.tid) work.out.records ≡ true) ⊎ (is_end_of k.tid rec ≡ true) → k.ends ≡ true
      more (inl has) = is.ends has
      more (inr has) = (last_end rec has may).0

  pub log_on : TurnsOn k work (log rec work)
  log_on = record { setting = refl; kept = log_kept k rec work; goes = λ is. subst (λ (f : Option Fate). TurnedAs k work.node.setting.node f (work.out.records ++ rec ∷ [])) (sym logged_fate) (entered is) }

-- where what holds before is asked too
pub log_on_turned : {k : Case} (rec : Record) (work : Work) → (Turned k work → same_tid k.tid (tid_of rec) ≡ true → MayEnter k rec work) → TurnsOn k work (log rec work)
log_on_turned {k} rec work may = record { setting = refl; kept = log_kept k rec work; goes = λ is. (log_on k rec work (may is)).goes is }

pub log_if_on : {k : Case} (rec : Option Record) (work : Work) → (Turned k work → (r : Record) → rec ≡ Some r → same_tid k.tid (tid_of r) ≡ true → MayEnter k r work) → TurnsOn k work (log_if rec work)
log_if_on None work may = on_itself work
log_if_on (Some rec) work may = log_on_turned rec work (λ is. may is rec refl)

-- ---- a transaction becomes known, decided and forgotten

-- whose fate is known, that goes on as it is said of it
pub fated_on : {k : Case} (work new : Work) (fate : Option Fate) → new.node.setting ≡ work.node.setting → new.out.records ≡ work.out.records → fate_at k.tid new.node ≡ fate → (Turned k work → TurnedAs k work.node.setting.node fate work.out.records)
    → was_committed k.tid new.node ≡ was_committed k.tid work.node → ((acks : Nodes) → fate_at k.tid work.node ≡ became (Some outcomes.Commit) acks → (k.ends ≡ true) ⊎ ((now : Nodes) × (fate ≡ became (Some outcomes.Commit) now))) → TurnsOn k work new
fated_on {k} work new fate setting records its goes was commits = record {
  setting = setting;
  kept = λ so open_end is. then_kept open_end (so open_end (sym was ∙ is));
  goes = λ is. subst (λ (n : NodeNo). TurnedAs k n (fate_at k.tid new.node) new.out.records) (sym (ap (λ s. s.node) setting))
      (subst (λ (f : Option Fate). TurnedAs k work.node.setting.node f new.out.records) (sym its)
      (subst (λ (l : List Record). TurnedAs k work.node.setting.node fate l) (sym records) (goes is)));
}
  where
    then_kept : k.ends ≡ false → (k.was ≡ true) ⊎ ((acks : Nodes) × (fate_at k.tid work.node ≡ became (Some outcomes.Commit) acks)) → (k.was ≡ true) ⊎ ((acks : Nodes) × (fate_at k.tid new.node ≡ became (Some outcomes.Commit) acks))
    then_kept open_end (inl before) = inl before
    then_kept open_end (inr known) = now (commits known.0 known.1)
      where
        now : (k.ends ≡ true) ⊎ ((acks : Nodes) × (fate ≡ became (Some outcomes.Commit) acks)) → (k.was ≡ true) ⊎ ((acks : Nodes) × (fate_at k.tid new.node ≡ became (Some outcomes.Commit) acks))
        now (inl ends) = absurd (cc (ends, open_end))
        now (inr same) = inr (same.0, its ∙ same.1)

pub put_on : {k : Case} (tid : Tid) (part : Participant) (work : Work) → (same_tid k.tid tid ≡ true → fate_at k.tid work.node ≡ None) → (same_tid k.tid tid ≡ true → Turned k work → TurnedAs k work.node.setting.node (fate_of part) work.out.records) → TurnsOn k work (with_manager (tm.put_part tid part) work)
put_on {k} tid part work unknown may = by (same_tid k.tid tid) refl
  where
    found : same_tid k.tid tid ≡ true → fate_at k.tid (with_manager (tm.put_part tid part) work).node ≡ fate_of part
    found same = subst (λ (u : Tid). fate_found (tm.part_of u (tm.put_part tid part work.node.manager)) ≡ fate_of part) (sym (same_is k.tid tid same)) (ap fate_found (lookup_put tid_cmp tid part (grind (arith, nat_tests)) work.node.manager.known))

    by : (b : Bool) → same_tid k.tid tid ≡ b → TurnsOn k work (with_manager (tm.put_part tid part) work)
    by true same = fated_on work (with_manager (tm.put_part tid part) work) (fate_of part) refl refl (found same) (may same) refl (λ acks its. absurd (let both : None ≡ became (Some outcomes.Commit) acks = sym (unknown same) ∙ its in cc (both)))
    by false apart = same_on (record { setting = refl; fate = ap fate_found (put_apart k.tid tid part work.node.manager apart); records = refl; was = refl })

-- nobody is in no set
pub nobody : (m : ℕ) → has_node no_nodes (node_no m) ≡ true → ⊥
nobody m is = let none : has_node no_nodes (node_no m) ≡ false = alike_at 16 m false in cc (none, is)

-- where nothing is known of it: elsewhere than at the home one may be heard of, and an abort may be kept
module _ {k : Case} (node : NodeNo) (fate : Option Fate) (more : List Record) (none : fate ≡ None) (is : TurnedAs k node fate more) where
  never : (f : Fate) → fate ≡ Some f → ⊥
  never f some = let both : None ≡ Some f = sym none ∙ some in cc (both)

  pub heard : same_node k.tid.home node ≡ false → TurnedAs k node (became None no_nodes) more
  heard away = record {
    aborted = λ has. let known = is.aborted has in absurd (never (Some outcomes.Abort, known.0) known.1);
    ended = λ has. absurd (let at : same_node k.tid.home node ≡ true = (is.ended has).0 in cc (at, away));
    ends = is.ends;
    turn = is.turn;
    learnt = λ off acks same. absurd (open_apart outcomes.Commit acks no_nodes (sym same));
    acked = λ o acks same m has. absurd (nobody m (subst (λ (a : Nodes). has_node a (node_no m) ≡ true) (sym (same_acks None o no_nodes acks same)) has));
  }

  pub aborted_now : TurnedAs k node (became (Some outcomes.Abort) no_nodes) more
  aborted_now = record {
    aborted = λ has. (no_nodes, refl);
    ended = λ has. ((is.ended has).0, λ acks same. open_apart outcomes.Abort no_nodes acks same);
    ends = is.ends;
    turn = is.turn;
    learnt = λ off acks same. absurd (abort_apart no_nodes acks same);
    acked = λ o acks same m has. absurd (nobody m (subst (λ (a : Nodes). has_node a (node_no m) ≡ true) (sym (same_acks (Some outcomes.Abort) o no_nodes acks same)) has));
  }

-- while it is undecided it may be decided: a commit at its home, or where it may be learnt
pub decided_now : {k : Case} (node : NodeNo) (outcome : Outcome) (acks : Nodes) (more : List Record) → (same_node k.tid.home node ≡ false → outcome ≡ outcomes.Commit → k.learns ≡ true) → TurnedAs k node (became None acks) more → TurnedAs k node (became (Some outcome) acks) more
decided_now {k} node outcome acks more learns is = record {
  aborted = λ has. let known = is.aborted has in absurd (other known.0 known.1);
  ended = λ has. absurd ((is.ended has).1 acks refl);
  ends = is.ends;
  turn = is.turn;
  learnt = λ off a same. learns off (first (same_outcome (Some outcome) (Some outcomes.Commit) acks a same));
  acked = λ o a same m has. is.acked None acks refl m (subst (λ (b : Nodes). has_node b (node_no m) ≡ true) (sym (same_acks (Some outcome) o acks a same)) has);
}
  where
    other : (a : Nodes) → became None acks ≡ became (Some outcomes.Abort) a → ⊥
    other a same = open_apart outcomes.Abort a acks (sym same)

    first : Some outcome ≡ Some outcomes.Commit → outcome ≡ outcomes.Commit
    first same = cc (same)

-- what is forgotten was no abort
pub forgotten_now : {k : Case} (node : NodeNo) (fate : Option Fate) (more : List Record) → ((acks : Nodes) → fate ≡ became (Some outcomes.Abort) acks → ⊥) → TurnedAs k node fate more → TurnedAs k node None more
forgotten_now {k} node fate more kept is = record {
  aborted = λ has. let known = is.aborted has in absurd (kept known.0 known.1);
  ended = λ has. ((is.ended has).0, λ acks same. cc (same));
  ends = is.ends;
  turn = is.turn;
  learnt = λ off acks same. absurd (cc (same));
  acked = λ o acks same m has. absurd (cc (same));
}

-- ---- what became of a transaction that is known

pub fate_known : (k : Case) (tid : Tid) (work : Work) (part : Participant) → same_tid k.tid tid ≡ true → part_of tid work ≡ Some part → fate_at k.tid work.node ≡ fate_of part
fate_known k tid work part same known = subst (λ (u : Tid). fate_at u work.node ≡ fate_of part) (sym (same_is k.tid tid same)) (ap fate_found known)

pub fate_unknown : (k : Case) (tid : Tid) (work : Work) → same_tid k.tid tid ≡ true → part_of tid work ≡ None → fate_at k.tid work.node ≡ None
fate_unknown k tid work same none = subst (λ (u : Tid). fate_at u work.node ≡ None) (sym (same_is k.tid tid same)) (ap fate_found none)

-- it was undecided, and is decided so
pub open_decided : (k : Case) (tid : Tid) (f : Participant → Participant) (outcome : Outcome) (work : Work) (part : Participant) → part_of tid work ≡ Some part → part.outcome ≡ None
    → (f part).outcome ≡ Some outcome → (f part).acknowledged ≡ part.acknowledged → same_tid k.tid tid ≡ true
    → fate_at k.tid (with_manager (tm.with_part tid f) work).node ≡ became (Some outcome) part.acknowledged
open_decided k tid f outcome work part known open_now decided acks same =
    fate_known k tid (with_manager (tm.with_part tid f) work) (f part) same (lookup_changed (is_at (tid_cmp tid)) f work.node.manager.known part known) ∙ both decided acks
  where
    both : {a b : Option Outcome} {c d : Nodes} → a ≡ b → c ≡ d → became a c ≡ became b d
    both p q = rw (p, q) refl

pub open_fate : (k : Case) (tid : Tid) (work : Work) (part : Participant) → part_of tid work ≡ Some part → part.outcome ≡ None → same_tid k.tid tid ≡ true → fate_at k.tid work.node ≡ became None part.acknowledged
open_fate k tid work part known open_now same = fate_known k tid work part same known ∙ ap (λ (o : Option Outcome). became o part.acknowledged) open_now

-- a commit is decided where it began, or may be learnt
abbrev pub MayTake : Case → Tid → Outcome → Work → Type 0
MayTake k tid outcome work = same_tid k.tid tid ≡ true → same_node k.tid.home work.node.setting.node ≡ false → outcome ≡ outcomes.Commit → k.learns ≡ true

pub take_on : {k : Case} (tid : Tid) (f : Participant → Participant) (outcome : Outcome) (work : Work) (part : Participant) → part_of tid work ≡ Some part → part.outcome ≡ None
    → (f part).outcome ≡ Some outcome → (f part).acknowledged ≡ part.acknowledged → MayTake k tid outcome work → TurnsOn k work (with_manager (tm.with_part tid f) work)
take_on {k} tid f outcome work part known open_now decided acks may = by (same_tid k.tid tid) refl
  where
    by : (b : Bool) → same_tid k.tid tid ≡ b → TurnsOn k work (with_manager (tm.with_part tid f) work)
    by true same = fated_on work (with_manager (tm.with_part tid f) work) (became (Some outcome) part.acknowledged) refl refl (open_decided k tid f outcome work part known open_now decided acks same)
        (λ is. decided_now work.node.setting.node outcome part.acknowledged work.out.records (may same) (subst (λ (e : Option Fate). TurnedAs k work.node.setting.node e work.out.records) (open_fate k tid work part known open_now same) is))
        refl (λ a its. absurd (open_apart outcomes.Commit a part.acknowledged (sym its ∙ open_fate k tid work part known open_now same)))
    by false apart = same_on (apart_same tid f work apart)
