-- Each law of an event, from the event's step and from what holds of each lawful world of the machine.
use Rattle.qs_world_refine.proofs.Words.{◌≡◌, ◌≢◌, ◌⊎◌, inl, inr, ℕ, ◌+◌, ◌≤◌, true, false, sym, ap, subst, ◌∙◌, arith, Tid, class_of, Open, Committed, Leads, IsLawful, Votes, place, class_in, Runs, Meets, SightGoes, Sight, ShowsSight}
use Rattle.qs_base.specs.declared.identifiers.Class.TheVariants as classes
use Rattle.qs_world_agree.specs.World.{World, Immediate}
use Rattle.qs_world_refine.specs.EventLaws.{CountGoes, IssueGoes, EngageGoes, CoverGoes, ServeGoes, ServeToldGoes, LendGoes, PrepareGoes, AgreeGoes, CommitGoes, CommitUnloggedGoes, TellGoes, NoticeGoes, CrashGoes}
use Rattle.qs_world_refine.proofs.Agreeing as agreeing
use Rattle.qs_world_refine.proofs.Around.{known_is, place_some}
use Rattle.qs_world_refine.proofs.Committing as committing
use Rattle.qs_world_refine.proofs.Counting as counting
use Rattle.qs_world_refine.proofs.Covering as covering
use Rattle.qs_world_refine.proofs.Crashing as crashing
use Rattle.qs_world_refine.proofs.Facts.{invariant, posted_below, posted_all}
use Rattle.qs_world_refine.proofs.FreshRuns.{fresh}
use Rattle.qs_world_refine.proofs.Issuing as issuing
use Rattle.qs_world_refine.proofs.Local as local
use Rattle.qs_world_refine.proofs.Noticing as noticing
use Rattle.qs_world_refine.proofs.Putting as putting
use Rattle.qs_world_refine.proofs.Requesting as requesting
use Rattle.qs_world_refine.proofs.Unlogged as unlogged
use Rattle.qs_world_refine.proofs.Voting as voting

-- ---- what holds of a lawful world

-- what was sent to a place that is known was put for it
all_posted : (tid : Tid) (x : Sight) (w : World) (n m i : ℕ) → IsLawful w → ShowsSight tid x w → Runs x n → Meets x n m i → w.posted (place n (x.inc n)) (place m i) ≡ w.sent (place n (x.inc n)) m
all_posted tid x w n m i lawful shown at peer = posted_all w lawful (place n (x.inc n)) (place m i) (ap (w.peer (place n (x.inc n))) node_is ∙ peer_is) (place_some m i peer.some) ∙ ap (w.sent (place n (x.inc n))) node_is
  where
    node_is : w.node (place m i) ≡ m
    node_is = shown.stage.nodes m i peer.in_run

    peer_is : w.peer (place n (x.inc n)) m ≡ place m i
    peer_is = shown.stage.peers n m at.in_run peer.in_run at.up ∙ rw peer.knows (known_is m i peer.some)

-- the home that is undecided has decided nothing
pub undecided_cell : (tid : Tid) (x : Sight) (w : World) → IsLawful w → ShowsSight tid x w → Runs x tid.home.0 → x.inc tid.home.0 ≡ tid.inc → (x.face tid.home.0).outcome ≡ Open → w.cell ≡ Open
undecided_cell tid x w lawful shown at first undecided = sym (lawful.agreed.kept (subst (λ (q : ℕ). w.up q ≡ true) home_is here.up)) ∙ subst (λ (q : ℕ). w.outcome q ≡ Open) home_is (here.outcome ∙ undecided)
  where
    home_is : place tid.home.0 (x.inc tid.home.0) ≡ w.home
    home_is = ap (λ (i : ℕ). place tid.home.0 i) first ∙ sym shown.stage.home

    here : Rattle.qs_world_refine.specs.Faces.ShowsFace (x.face tid.home.0) (place tid.home.0 (x.inc tid.home.0)) w
    here = shown.faces tid.home.0 at.in_run at.up

goes : (tid : Tid) (y : Sight) (w v : World) → Leads w v → ShowsSight tid y v → SightGoes tid y w
goes tid y w v leads shown = record { next = v; leads = leads; shown = shown }

-- ---- requests

pub issue : IssueGoes
issue tid x w n m i s lawful shown at peer may =
    let below = posted_below w lawful in
    let all = all_posted tid x w n m i lawful shown at peer in
    record {
      next = issuing.after_issue (place n (x.inc n)) m s w;
      leads = issuing.leads tid x w n m i s shown at.in_run peer.in_run peer.other at.up peer.knows peer.some (lent may) (running may) below all;
      shown = issuing.after tid x w n m i s shown at.in_run peer.in_run peer.other at.up peer.knows peer.some (lent may) (running may) below all;
    }
  where
    -- who is engaged, or is lent it, knows no commit
    running : ((x.face n).on ≡ true) ⊎ (((x.face n).outcome ≡ Open) × (1 ≤ (x.face n).loans)) → (x.face n).outcome ≢ Committed
    running (inl on) is =
        let here = shown.faces n at.in_run at.up in
        let passive = (lawful.settled (lawful.agreed.knows_commit (place n (x.inc n)) (here.outcome ∙ is))).passive (place n (x.inc n)) in
        let engaged : w.engaged (place n (x.inc n)) ≡ true = here.engaged ∙ on in
        cc (passive, engaged)
    running (inr has) is = cc (has.0, is)

    lent : ((x.face n).on ≡ true) ⊎ (((x.face n).outcome ≡ Open) × (1 ≤ (x.face n).loans)) → ((x.face n).on ≡ true) ⊎ (1 ≤ w.loans (place n (x.inc n)))
    lent (inl on) = inl on
    lent (inr has) = inr (rw (((shown.faces n at.in_run at.up).running has.0).loans) has.1)

pub engage : EngageGoes
engage tid x w n m i number s rest shown at peer head undecided off elsewhere home_in = record {
  next = requesting.after_engage (place n (x.inc n)) (place m i) w;
  leads = requesting.leads tid x w n m i number s rest shown at.in_run peer.in_run at.up peer.knows peer.some head undecided off elsewhere home_in;
  shown = requesting.after tid x w n m i number s rest shown at.in_run peer.in_run at.up peer.knows peer.some head undecided off elsewhere home_in;
}

pub cover : CoverGoes
cover tid x w n m i number s rest lawful shown at peer head undecided on apart =
    let known = (invariant w lawful).counts.peer_node (place n (x.inc n)) in
    record {
      next = requesting.after_cover (place n (x.inc n)) (place m i) w;
      leads = covering.covered_leads tid x w n m i number s rest shown at.in_run peer.in_run peer.other at.up peer.knows peer.some head undecided on apart known clear;
      shown = covering.covered_after tid x w n m i number s rest shown at.in_run peer.in_run peer.other at.up peer.knows peer.some head undecided on apart known clear;
    }
  where
    clear : (k : ℕ) → w.closer_set (place n (x.inc n)) (place m i) (w.closers (place n (x.inc n)) (place m i) + 1) k ≡ false
    clear k = (fresh w lawful (place n (x.inc n)) (place m i)).set (w.closers (place n (x.inc n)) (place m i) + 1) k (omega arith)

pub serve : ServeGoes
serve tid x w n s left shown at undecided one class = record {
  next = local.after_serve tid x w n s left shown at.in_run at.up undecided one;
  leads = local.serve_leads tid x w n s left shown at.in_run at.up undecided one votes;
  shown = local.serve_shown tid x w n s left shown at.in_run at.up undecided one votes;
}
  where
    by : (class_of s ≡ classes.Recoverable) ⊎ ((class_of s ≡ classes.Volatile) ⊎ (class_of s ≡ classes.Immediate)) → Votes w (place n (x.inc n)) s ⊎ (w.class (w.node (place n (x.inc n))) s ≡ Immediate)
    by (inl is) = inl (inl (shown.stage.classes (w.node (place n (x.inc n))) s ∙ ap class_in is))
    by (inr (inl is)) = inl (inr (shown.stage.classes (w.node (place n (x.inc n))) s ∙ ap class_in is))
    by (inr (inr is)) = inr (shown.stage.classes (w.node (place n (x.inc n))) s ∙ ap class_in is)

    votes : Votes w (place n (x.inc n)) s ⊎ (w.class (w.node (place n (x.inc n))) s ≡ Immediate)
    votes = by class

pub serve_told : ServeToldGoes
serve_told tid x w n s left shown at undecided one class = record {
  next = local.after_told tid x w n s left shown at.in_run at.up undecided one;
  leads = local.told_leads tid x w n s left shown at.in_run at.up undecided one class;
  shown = local.told_shown tid x w n s left shown at.in_run at.up undecided one class;
}

pub lend : LendGoes
lend tid x w n s left shown at undecided one class = record {
  next = local.after_lend tid x w n s left shown at.in_run at.up undecided one;
  leads = local.lend_leads tid x w n s left shown at.in_run at.up undecided one class;
  shown = local.lend_shown tid x w n s left shown at.in_run at.up undecided one class;
}

-- ---- votes

pub prepare : PrepareGoes
prepare tid x w n s covers changes shown at undecided asked idle unlent due class = record {
  next = voting.after_vote (place n (x.inc n)) s w;
  leads = voting.leads tid x w n s covers changes shown at.in_run at.up undecided asked idle unlent due class;
  shown = voting.after tid x w n s covers changes shown at.in_run at.up undecided asked idle unlent due class;
}

pub agree : AgreeGoes
agree tid x w n m i told lawful shown at peer away not_home ready superior same names =
    let counts = (invariant w lawful).counts.covered_sent (place n (x.inc n)) in
    record {
      next = agreeing.after_yes (place n (x.inc n)) w;
      leads = agreeing.leads tid x w n m i told shown at.in_run peer.in_run at.up peer.knows peer.some away not_home ready superior same names counts;
      shown = agreeing.after tid x w n m i told shown at.in_run peer.in_run at.up peer.knows peer.some away not_home ready superior same names counts;
    }

pub count : CountGoes
count tid x w n m i number told rest shown at peer head undecided = record {
  next = counting.after_count (place n (x.inc n)) (place m i) w;
  leads = counting.leads tid x w n m i number told rest shown at.in_run peer.in_run at.up peer.knows peer.some head undecided;
  shown = counting.after tid x w n m i number told rest shown at.in_run peer.in_run at.up peer.knows peer.some head undecided;
}

-- ---- the decision

pub commit : CommitGoes
commit tid x w first others lawful shown at first_home is_home ready told unlogged =
    let counts = (invariant w lawful).counts.covered_sent (place tid.home.0 (x.inc tid.home.0)) in
    let undecided = undecided_cell tid x w lawful shown at first_home ready.undecided in
    record {
      next = committing.after_commit w;
      leads = committing.leads tid x w first others shown at.in_run at.up first_home is_home ready told counts undecided unlogged;
      shown = committing.after tid x w first others shown at.in_run at.up first_home is_home ready told counts undecided unlogged;
    }

pub commit_unlogged : CommitUnloggedGoes
commit_unlogged tid x w lawful shown at first_home is_home ready nobody unprepared =
    let counts = (invariant w lawful).counts.covered_sent (place tid.home.0 (x.inc tid.home.0)) in
    let undecided = undecided_cell tid x w lawful shown at first_home ready.undecided in
    record {
      next = unlogged.after_unlogged w;
      leads = unlogged.leads tid x w shown at.in_run at.up first_home is_home ready nobody unprepared counts undecided;
      shown = unlogged.after tid x w shown at.in_run at.up first_home is_home ready nobody unprepared counts undecided;
    }

pub tell : TellGoes
tell tid x w n m i shown at m_in knows home = record {
  next = putting.after_tell m w;
  leads = putting.leads tid x w n m i shown at.in_run m_in at.up knows home;
  shown = putting.after tid x w n m i shown at.in_run m_in at.up knows home;
}

-- ---- crashes

pub notice : NoticeGoes
notice tid x w n m i new blocked lawful shown at peer later begun nothing owed =
    let known = (invariant w lawful).counts.peer_node (place n (x.inc n)) in
    record {
      next = noticing.after_notice (place n (x.inc n)) (place m new) w;
      leads = noticing.leads tid x w n m i new blocked shown at.in_run peer.in_run peer.other at.up peer.knows peer.some later begun nothing owed known;
      shown = noticing.after tid x w n m i new blocked shown at.in_run peer.in_run peer.other at.up peer.knows peer.some later begun nothing owed known;
    }

pub crash : CrashGoes
crash tid x y w n shown at cut = record {
  next = crashing.v tid x y w n shown at.in_run at.up cut.size cut.inc cut.knows cut.found cut.up cut.faces cut.unmet cut.said_other cut.said_cut;
  leads = crashing.leads tid x y w n shown at.in_run at.up cut.size cut.inc cut.knows cut.found cut.up cut.faces cut.unmet cut.said_other cut.said_cut;
  shown = crashing.after tid x y w n shown at.in_run at.up cut.size cut.inc cut.knows cut.found cut.up cut.faces cut.unmet cut.said_other cut.said_cut;
}
