-- What holds as a vote pass goes on, and that one more vote leaves it so.
use Rattle.qs_world_refine.proofs.Words.{◌≡◌, ◌⊎◌, inl, inr, ℕ, ◌+◌, ◌≤◌, ◌==◌, nat_lt, Bool, true, false, List, Option, Some, None, refl, subst, ap, ◌∙◌, arith, if◌then◌else◌, is_at, nat_tests, length-set, tid_cmp, Class, Tid, class_of, is_two_phase, ServerValue, number_of, vote_of, after_vote, changes_in, ServerKind, Vote, Record, server_at, ballot_of, member_of, Participant, member_here, Work, part_of, vote_with, enter_vote, served_count, is_audit, face, uncast_of, loans_at, HasKinds, MayVote, Scene}
use Rattle.qs_world_refine.proofs.Words.{ShowsWork, server_no, IsAt, IsWhole, Goes}
use Rattle.qs_base.specs.declared.identifiers.Class.TheVariants as classes
use Rattle.qs_ops.specs.Server.{vote_in_room, vote_need, names_vote, changes_vote}
use Rattle.qs_ops.specs.Table.{TableValue, view_bytes, has_changes, least_taken}
use Rattle.qs_ops.specs.declared.server.ServerKind.TheVariants as kinds
use Rattle.qs_ops.specs.declared.vote.Reason.TheVariants as reasons
use Rattle.qs_ops.specs.declared.vote.Vote.TheVariants as votes
use Rattle.qs_record.specs.declared.record.Record.TheVariants as records
use Rattle.qs_tm.specs.Outcomes as outcome_rules
use Rattle.qs_tm.specs.Participant as participant
use Rattle.qs_world_agree.specs.World.{World}
use Rattle.qs_world_refine.specs.NodeFaces.{waiting_at}
use Rattle.qs_world_refine.specs.Steps.{Knows}
use Rattle.qs_world_refine.proofs.Arrays.{member_put}
use Rattle.qs_world_refine.proofs.Known.{told_is}
use Rattle.qs_world_refine.proofs.Maps.{lookup_changed}
use Rattle.qs_world_refine.proofs.PassDue.{IsDue}
use Rattle.qs_world_refine.proofs.RuleGoes.{recoverable, volatile, read_only, against}
use Rattle.qs_world_refine.proofs.ServerKinds.{kind_kept, vote_kind}

-- the node is asked and idle, and knows no outcome
pub record Passing (tid : Tid) (scene : Scene) (n : ℕ) (work : Work) (part : Participant) : Type 0 where
  pub at : IsAt scene n work
  pub knows : Knows tid work part
  pub undecided : part.outcome ≡ None
  pub asked : part.asked ≡ true
  pub idle : (r : ℕ) → waiting_at work.node tid r ≡ 0
  pub unlent : loans_at work.node tid ≡ 0
  pub on : (face work.node tid part).on ≡ true
  pub kinds : HasKinds work.node
  pub audit : is_audit work.node.setting.nodes work.node.setting.audit ≡ true

-- ---- a server votes as its class does

abbrev pub FitsClass : Vote → ℕ → Type 0
FitsClass (votes.Abort reason) s = is_two_phase (class_of s) ≡ true
FitsClass votes.ReadOnly s = is_two_phase (class_of s) ≡ true
FitsClass votes.Volatile s = class_of s ≡ classes.Volatile
FitsClass votes.Recoverable s = class_of s ≡ classes.Recoverable

one_of : (s : ℕ) → is_two_phase (class_of s) ≡ true → (class_of s ≡ classes.Recoverable) ⊎ (class_of s ≡ classes.Volatile)
one_of s votes = by (class_of s) votes
  where
    by : (c : Class) → is_two_phase c ≡ true → (c ≡ classes.Recoverable) ⊎ (c ≡ classes.Volatile)
    by classes.Recoverable is = inl refl
    by classes.Volatile is = inr refl
    by classes.Immediate is = absurd (cc is)
    by classes.Standard is = absurd (cc is)
    by classes.Delayed is = absurd (cc is)
    by classes.Activity is = absurd (cc is)

module _ (table : TableValue) (tid : Tid) (free frame : ℕ) where
  roomy : (s : ℕ) → class_of s ≡ classes.Recoverable → is_two_phase (class_of s) ≡ true → FitsClass (vote_in_room table tid free frame) s
  roomy s class two = by (nat_lt free (vote_need table tid frame))
    where
      by : (b : Bool) → FitsClass (if b then votes.Abort (reasons.LogRoom (vote_need table tid frame) free) else votes.Recoverable) s
      by true = two
      by false = class

  changed_fits : (k : ServerKind) (s : ℕ) → number_of k ≡ s → is_two_phase (class_of s) ≡ true → FitsClass (changes_vote k table tid free frame) s
  changed_fits (kinds.Files quota) s is two = by (nat_lt quota (view_bytes table tid))
    where
      class : class_of s ≡ classes.Recoverable
      class = subst (λ (r : ℕ). class_of r ≡ classes.Recoverable) is refl

      by : (b : Bool) → FitsClass (if b then votes.Abort (reasons.Quota (view_bytes table tid) quota) else vote_in_room table tid free frame) s
      by true = two
      by false = roomy s class two
  changed_fits kinds.Audit s is two = roomy s (subst (λ (r : ℕ). class_of r ≡ classes.Recoverable) is refl) two
  changed_fits kinds.Names s is two = by (least_taken table tid)
    where
      by : (o : Option (List ℕ)) → FitsClass (names_vote o) s
      by None = subst (λ (r : ℕ). class_of r ≡ classes.Volatile) is refl
      by (Some name) = two
  changed_fits kinds.Timers s is two = two
  changed_fits kinds.Windows s is two = two
  changed_fits kinds.Scratch s is two = two
  changed_fits kinds.Nothing s is two = two

vote_fits : (value : ServerValue) (tid : Tid) (free frame s : ℕ) → number_of value.kind ≡ s → is_two_phase (class_of s) ≡ true → FitsClass (vote_of value tid free frame) s
vote_fits value tid free frame s is two = by (has_changes value.table tid)
  where
    by : (b : Bool) → FitsClass (if b then changes_vote value.kind value.table tid free frame else votes.ReadOnly) s
    by true = changed_fits value.table tid free frame value.kind s is two
    by false = two

-- ---- one votes

module _ (tid : Tid) (scene : Scene) (n s : ℕ) (work : Work) (part : Participant) (is : Passing tid scene n work part) (due : IsDue part s) where
  may : MayVote (face work.node tid part) s
  may = record { undecided = rw is.undecided refl; asked = is.asked; idle = is.idle; unlent = is.unlent; due = due.more }

  as_class : (ballot : Vote) (w : World) → FitsClass ballot s → ShowsWork tid scene n work w → Goes tid scene n (vote_with tid (server_no s) ballot work) w
  as_class (votes.Abort reason) w fits shown = against tid scene n s reason work part w shown is.at is.knows is.undecided due.below may (one_of s fits)
  as_class votes.ReadOnly w fits shown = read_only tid scene n s work part w shown is.at is.knows is.undecided due.below may (one_of s fits)
  as_class votes.Volatile w fits shown = volatile tid scene n s work part w shown is.at is.knows is.undecided due.below may fits
  as_class votes.Recoverable w fits shown = recoverable tid scene n s work part w shown is.at is.knows is.undecided due.below may fits

  pub vote_goes : (free frame : ℕ) (w : World) → ShowsWork tid scene n work w → Goes tid scene n (vote_with tid (server_no s) (vote_of (server_at work.node.servers (server_no s)) tid free frame) work) w
  vote_goes free frame w shown = as_class (vote_of (server_at work.node.servers (server_no s)) tid free frame) w (vote_fits (server_at work.node.servers (server_no s)) tid free frame s (is.kinds s due.below) due.votes) shown

  -- ---- and the pass goes on

  module _ (ballot : Vote) where
    abbrev entered : Work
    entered = enter_vote tid (server_no s) ballot work

    abbrev pub voted_part : Participant
    voted_part = participant.voted (member_here work (server_no s)) ballot (member_of part (server_no s)).served part

    pub known_entered : part_of tid entered ≡ Some voted_part
    known_entered =
        lookup_changed (is_at (tid_cmp tid)) (participant.voted (member_here work (server_no s)) ballot (served_count tid (server_no s) work)) work.node.manager.known part is.knows.known
        ∙ ap (λ (c : ℕ). Some (participant.voted (member_here work (server_no s)) ballot c part)) (told_is tid 0 (λ part. (member_of part (server_no s)).served) work.node.manager part is.knows.known)

    kinds_entered : HasKinds entered.node
    kinds_entered r below = ap number_of (kind_kept (λ value. after_vote value tid ballot) (λ value. vote_kind value tid ballot) r work.node.servers (server_no s)) ∙ is.kinds r below

    whole_entered : IsWhole voted_part
    whole_entered = record {
      peers = is.knows.whole.peers;
      members = length-set part.members s _ ∙ is.knows.whole.members;
      told = is.knows.whole.told;
      tell = is.knows.whole.tell;
      acknowledged = is.knows.whole.acknowledged;
    }

    pub entered_passing : Passing tid scene n entered voted_part
    entered_passing = record {
      at = record { in_run = is.at.in_run; up = is.at.up; node = is.at.node; nodes = is.at.nodes; inc = is.at.inc };
      knows = record { known = known_entered; whole = whole_entered };
      undecided = is.undecided;
      asked = is.asked;
      idle = is.idle;
      unlent = is.unlent;
      on = is.on;
      kinds = kinds_entered;
      audit = is.audit;
    }

    pub others_left : (r : ℕ) → s + 1 ≤ r → uncast_of (member_of voted_part (server_no r)) ≡ uncast_of (member_of part (server_no r))
    others_left r above = ap uncast_of (member_put s r (record (member_of part (server_no s)) { vote = Some (record { ballot = ballot_of ballot; covers = (member_of part (server_no s)).served }) }) part (rw is.knows.whole.members due.below)
        ∙ apart (r == s) (grind (arith, nat_tests, above)))
      where
        apart : (b : Bool) → b ≡ false
            → (if b then record (member_of part (server_no s)) { vote = Some (record { ballot = ballot_of ballot; covers = (member_of part (server_no s)).served }) } else member_of part (server_no r)) ≡ member_of part (server_no r)
        apart b off = rw off refl

-- what is kept of it after the vote
abbrev pub part_after : Tid → ℕ → Vote → Work → Participant → Participant
part_after tid s (votes.Abort reason) work part = participant.voted (member_here work (server_no s)) (votes.Abort reason) (member_of part (server_no s)).served part
part_after tid s votes.ReadOnly work part = participant.voted (member_here work (server_no s)) votes.ReadOnly (member_of part (server_no s)).served part
part_after tid s votes.Volatile work part = participant.voted (member_here work (server_no s)) votes.Volatile (member_of part (server_no s)).served part
part_after tid s votes.Recoverable work part =
    record (participant.voted (member_here work (server_no s)) votes.Recoverable (member_of part (server_no s)).served part) { log = record part.log { unended = true; prepared = true } }

module _ (tid : Tid) (scene : Scene) (n s : ℕ) (work : Work) (part : Participant) (is : Passing tid scene n work part) (due : IsDue part s) where
  abbrev prepared : Work
  prepared = enter_vote tid (server_no s) votes.Recoverable work

  abbrev rec : Record
  rec = records.Prepare tid (server_no s) (served_count tid (server_no s) prepared) (changes_in (server_at prepared.node.servers (server_no s)) tid)

  pub known_voted : (ballot : Vote) → part_of tid (vote_with tid (server_no s) ballot work) ≡ Some (part_after tid s ballot work part)
  known_voted (votes.Abort reason) = known_entered tid scene n s work part is due (votes.Abort reason)
  known_voted votes.ReadOnly = known_entered tid scene n s work part is due votes.ReadOnly
  known_voted votes.Volatile = known_entered tid scene n s work part is due votes.Volatile
  known_voted votes.Recoverable = lookup_changed (is_at (tid_cmp tid)) (outcome_rules.logged rec) prepared.node.manager.known (voted_part tid scene n s work part is due votes.Recoverable) (known_entered tid scene n s work part is due votes.Recoverable)

  pub voted_passing : (ballot : Vote) → Passing tid scene n (vote_with tid (server_no s) ballot work) (part_after tid s ballot work part)
  voted_passing (votes.Abort reason) = entered_passing tid scene n s work part is due (votes.Abort reason)
  voted_passing votes.ReadOnly = entered_passing tid scene n s work part is due votes.ReadOnly
  voted_passing votes.Volatile = entered_passing tid scene n s work part is due votes.Volatile
  voted_passing votes.Recoverable =
      let now = entered_passing tid scene n s work part is due votes.Recoverable in
      record {
        at = record { in_run = is.at.in_run; up = is.at.up; node = is.at.node; nodes = is.at.nodes; inc = is.at.inc };
        knows = record { known = known_voted votes.Recoverable; whole = record { peers = now.knows.whole.peers; members = now.knows.whole.members; told = now.knows.whole.told; tell = now.knows.whole.tell; acknowledged = now.knows.whole.acknowledged } };
        undecided = is.undecided;
        asked = is.asked;
        idle = is.idle;
        unlent = is.unlent;
        on = is.on;
        kinds = now.kinds;
        audit = is.audit;
      }

  pub still_left : (ballot : Vote) (r : ℕ) → s + 1 ≤ r → uncast_of (member_of (part_after tid s ballot work part) (server_no r)) ≡ uncast_of (member_of part (server_no r))
  still_left (votes.Abort reason) = others_left tid scene n s work part is due (votes.Abort reason)
  still_left votes.ReadOnly = others_left tid scene n s work part is due votes.ReadOnly
  still_left votes.Volatile = others_left tid scene n s work part is due votes.Volatile
  still_left votes.Recoverable = others_left tid scene n s work part is due votes.Recoverable
