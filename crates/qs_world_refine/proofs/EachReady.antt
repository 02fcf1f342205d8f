-- A node that runs is ready for a step, as far as what holds of all nodes and what shows a transaction say of it.
use Rattle.qs_world_refine.proofs.Words.{◌≡◌, ◌≢◌, ℕ, ◌<◌, ◌==◌, ◌&&◌, ◌||◌, not, Bool, true, false, List, [], ◌∷◌, ◌++◌, fold, Option, Some, None, is_some, refl, sym, ap, ◌∙◌, arith, if◌then◌else◌, list_any, nat_tests, fold-append, same_tid, Tid, Record, Prepared, recovery, found_record, nothing_said, is_vote_of, InLog, Participant, NodeValue, work_on, Open, Committed, Aborted, ShowsAll, ShowsFace, is_record_of, MayClose, AllClose, face, face_at, part_at, outcome_seen, place, no_flags, flags_at}
use Rattle.qs_world_refine.proofs.Words.{IsSaid, scene_of, server_no, is_in_doubt, may_doubt, IsSteady, or_last, or_first}
use Rattle.qs_base.specs.declared.identifiers.Outcome.{Outcome}
use Rattle.qs_record.specs.declared.record.Record.TheVariants as records
use Rattle.qs_restart.specs.Recovery.{is_of}
use Rattle.qs_tm.specs.Manager as tm
use Rattle.qs_world.specs.World.{World}
use Rattle.qs_world_agree.specs.World as machine
use Rattle.qs_world_refine.specs.RestartWhole.{IsTakenUp}
use Rattle.qs_world_refine.specs.StepWhole.{IsReady}
use Rattle.qs_world_refine.proofs.InTurn.{others_say}
use Rattle.qs_world_refine.proofs.Reading.{part_known}
use Rattle.qs_world_refine.proofs.SaysSeen.{said_seen}

-- a vote in doubt at some server is one in doubt
no_doubt : (t : Tid) (s : ℕ) (votes : List Prepared) → list_any (λ (vote : Prepared). is_of t vote && not vote.committed) votes ≡ false → list_any (λ (vote : Prepared). is_vote_of t (server_no s) vote && not vote.committed) votes ≡ false
no_doubt t s [] none = refl
no_doubt t s (v ∷ votes) none = neither (off (is_of t v) (v.server.0 == s) (not v.committed) (or_first _ _ none)) (no_doubt t s votes (or_last (is_of t v && not v.committed) _ none))
  where
    neither : {a b : Bool} → a ≡ false → b ≡ false → (a || b) ≡ false
    neither x y = rw (x, y) refl

    off : (a b c : Bool) → (a && c) ≡ false → ((a && b) && c) ≡ false
    off true true c is = is
    off true false c is = refl
    off false b c is = refl

module _ (t : Tid) (world : World) (w : machine.World) (steady : IsSteady world) (home_in : t.home.0 < world.size) (all : ShowsAll t world w) (n : ℕ) (n_in : n < world.size) (on : world.channels.up n ≡ true) where
  abbrev node : NodeValue
  node = (world.hosts n).node

  abbrev q : ℕ
  q = place n (world.channels.inc n)

  pub face_shown : ShowsFace (face_at node t) q w
  face_shown = all.seen.shown.faces n n_in on

  -- ---- no record of it waits, where its node has not decided it

  abbrev Undecided : Type 0
  Undecided = may_doubt (t.home.0 == n) (tm.part_of t node.manager) ≡ false

  open_part : Undecided → (part : Participant) → tm.part_of t node.manager ≡ Some part → part.outcome ≡ None
  open_part off part known = none part.outcome (part.log.prepared) (sym (ap (may_doubt (t.home.0 == n)) known) ∙ off)
    where
      none : (o : Option Outcome) (b : Bool) → (is_some o || b) ≡ false → o ≡ None
      none None b is = refl
      none (Some outcome) b is = absurd (cc (is))

  unprepared : Undecided → (part : Participant) → tm.part_of t node.manager ≡ Some part → part.log.prepared ≡ false
  unprepared off part known = or_last (is_some part.outcome) part.log.prepared (sym (ap (may_doubt (t.home.0 == n)) known) ∙ off)

  away : Undecided → tm.part_of t node.manager ≡ None → t.home.0 ≢ n
  away off none same = let here : (t.home.0 == n) ≡ true = grind (arith, nat_tests, same) in let both : (t.home.0 == n) ≡ false = sym (ap (may_doubt (t.home.0 == n)) none) ∙ off in cc (here, both)

  -- the machine knows no outcome there, elsewhere than at the home or where it is known
  open_there : Undecided → (part : Participant) → tm.part_of t node.manager ≡ Some part → w.outcome q ≡ Open
  open_there off part known = face_shown.outcome ∙ (ap (λ (p : Participant). Rattle.qs_world_refine.specs.NodeFaces.outcome_of p) (part_known t node part known) ∙ ap (λ (o : Option Outcome). outcome_seen o (part.engage.home || part.involved)) (open_part off part known))

  open_unknown : t.home.0 ≢ n → tm.part_of t node.manager ≡ None → w.outcome q ≡ Open
  open_unknown apart none = face_shown.outcome ∙ (ap (λ (o : Option Participant). Rattle.qs_world_refine.specs.NodeFaces.outcome_of (Rattle.std.specs.Prelude.unwrap_or o (Rattle.qs_world_refine.specs.NodeFaces.unknown node t))) none
      ∙ ap (λ (b : Bool). Rattle.qs_world_refine.specs.NodeFaces.outcome_of (if b then Rattle.qs_world_refine.specs.NodeFaces.unknown_at_home node t else Rattle.qs_tm.specs.Participant.new_participant false)) not_here)
    where
      not_here : (t.home.0 == node.setting.node.0) ≡ false
      not_here = rw (steady.seated.node n n_in) (grind (arith, nat_tests, apart))

  open_either : Undecided → w.outcome q ≡ Open
  open_either off = by (tm.part_of t node.manager) refl
    where
      by : (o : Option Participant) → tm.part_of t node.manager ≡ o → w.outcome q ≡ Open
      by None none = open_unknown (away off none) none
      by (Some part) known = open_there off part known

  none_waits : w.outcome q ≡ Open → (rs : List Record) → AllClose t n q w rs → list_any (is_record_of t) rs ≡ false
  none_waits undecided [] close = refl
  none_waits undecided (r ∷ rs) close = neither (apart r close.0) (none_waits undecided rs close.1)
    where
      neither : {a b : Bool} → a ≡ false → b ≡ false → (a || b) ≡ false
      neither x y = rw (x, y) refl

      no_abort : (b : Bool) → (b ≡ true → w.outcome q ≡ Aborted) → b ≡ false
      no_abort true is = absurd (let both : Open ≡ Aborted = sym undecided ∙ is refl in cc (both))
      no_abort false is = refl

      no_end : (b : Bool) → (b ≡ true → (n ≡ t.home.0) × ((w.outcome q ≡ Committed) × ((m : ℕ) → w.commit_list m ≡ true → w.acknowledged m ≡ true))) → b ≡ false
      no_end true is = absurd (let both : Open ≡ Committed = sym undecided ∙ (is refl).1.0 in cc (both))
      no_end false is = refl

      apart : (r : Record) → MayClose t n q w r → is_record_of t r ≡ false
      apart (records.Prepare other server covers changes) may = may
      apart (records.Commit other told) may = may
      apart (records.Aborted other) may = no_abort (same_tid t other) may
      apart (records.End other) may = no_end (same_tid t other) may

  -- ---- its log has no vote of it in doubt then

  flags_off : Undecided → (flags_at t node).prepared ≡ false
  flags_off off = by (tm.part_of t node.manager) refl
    where
      log_of : Option Participant → InLog
      log_of o = elim o [ None ↦ no_flags | Some part ↦ part.log ]

      by : (o : Option Participant) → tm.part_of t node.manager ≡ o → (log_of o).prepared ≡ false
      by None none = refl
      by (Some part) known = unprepared off part known

  clear : Undecided → (s : ℕ) → is_in_doubt t s (recovery (world.hosts n).log) ≡ false
  clear off s = sym ((others_say t (world.hosts n).waiting (recovery (world.hosts n).log) (none_waits (open_either off) (world.hosts n).waiting (all.seen.closes n n_in on))).prepared s) ∙ with_waiting
    where
      said : IsSaid node (recovery ((world.hosts n).log ++ (world.hosts n).waiting)) t
      said = said_seen node (recovery ((world.hosts n).log ++ (world.hosts n).waiting)) (steady.sound n n_in).node ((steady.sound n n_in).runs on) t

      with_waiting : is_in_doubt t s (fold found_record (recovery (world.hosts n).log) (world.hosts n).waiting) ≡ false
      with_waiting = ap (is_in_doubt t s) (sym (fold-append found_record nothing_said (world.hosts n).log (world.hosts n).waiting))
          ∙ no_doubt t s (recovery ((world.hosts n).log ++ (world.hosts n).waiting)).prepared (sym said.prepared ∙ flags_off off)

  pub ready : IsReady t (scene_of world) n
  ready = record {
    in_run = n_in;
    up = on;
    node = steady.seated.node n n_in;
    nodes = steady.seated.nodes n n_in;
    inc = steady.seated.inc n n_in;
    home_in = home_in;
    sound = (steady.sound n n_in).node;
    kinds = (steady.nodes n n_in on).kinds;
    clear = clear;
    superior = λ part m known has. steady.superior n m t part n_in on known has;
  }

  pub taken_up : (free : ℕ) → IsTakenUp t (work_on node free)
  taken_up free = record {
    undecided = λ first part known open_now. ((steady.nodes n n_in on).early first t part known).undecided open_now;
    committed = λ first part known decided. ((steady.nodes n n_in on).early first t part known).committed decided;
  }
