-- A node settles a transaction, its own vote pass with it: at the turn of each server a note is issued well and a vote is for commit, or it is doomed.
use Rattle.qs_world_runs.proofs.Words.{◌≡◌, ◌⊎◌, inl, inr, ℕ, Bool, true, false, Option, Some, None, is_none, refl, sym, subst, if◌then◌else◌, same_tid, NodeNo, ServerNo, Tid, BookValue, vote_of, Vote, server_at, end_members, issue_as, is_pass_due, pass_rule, settle_tid, try, Work, due_votes, issue_note, owes_note, vote_frame, vote_next, vote_pass, vote_with, is_undecided, Participant, IsDoomed, same_is, Field, is_against, PlacedAmid, HoldsOr, IssuesWell, PassesWell, note_op, note_request}
use Rattle.qs_base.specs.declared.identifiers.Outcome.{Outcome}
use Rattle.qs_node_step.specs.Requests.{next_number}
use Rattle.qs_node_step.specs.State.{part_of}
use Rattle.qs_world_runs.specs.PlacesGo.{Goes, SettleGoes, VotesWell}
use Rattle.qs_world_runs.proofs.LeftOutcomes.{ended_leaves}
use Rattle.qs_world_runs.proofs.LeftRequests.{vote_leaves}
use Rattle.qs_world_runs.proofs.LeftSteps.{rest_leaves, settle_leaves}
use Rattle.qs_world_runs.proofs.PlacedVotes.{vote_placed}
use Rattle.qs_world_runs.proofs.PlacesGo.{beside, goes_by, goes_fold, goes_itself, goes_left, goes_then, is_beside, issue_goes_on}

module _ (D : Type 0) (t : Tid) (base : Field) (knows : ℕ → ℕ) (n stamp : ℕ) (before : BookValue) where
  abbrev G : Work → Work → Type 0
  G work new = Goes D t base knows n stamp before work new

  vote_goes : (work : Work) (server : ServerNo) (ballot : Vote) → D ⊎ (is_against ballot ≡ false) → G work (vote_with t server ballot work)
  vote_goes work server ballot for_it = goes_by D t base knows n stamp before (beside t) work (vote_with t server ballot work) (vote_leaves (beside t) t (is_beside t) server ballot work) (λ is lawful placed. by for_it (λ so. vote_placed t base knows n stamp before is.inv work is.here is.in_run is.up is.inc server ballot so lawful placed))
    where
      by : D ⊎ (is_against ballot ≡ false) → (is_against ballot ≡ false → PlacedAmid t base knows n stamp before (vote_with t server ballot work)) → HoldsOr D t base knows n stamp before (vote_with t server ballot work)
      by (inl doomed) goes = inl doomed
      by (inr so) goes = inr (goes so)

  note_goes : (work : Work) (o : Option NodeNo) → ((node : NodeNo) (number : ℕ) → o ≡ Some node → next_number t node work ≡ Some number → D ⊎ IssuesWell t base knows n stamp before (note_request t node number work) (note_op t work) work) → G work (issue_note t o work)
  note_goes work None well = goes_itself D t base knows n stamp before work
  note_goes work (Some node) well = by (next_number t node work) refl
    where
      by : (o : Option ℕ) → next_number t node work ≡ o → G work (elim o [ None ↦ work | Some number ↦ issue_as t (note_request t node number work) (note_op t work) work ])
      by None none = goes_itself D t base knows n stamp before work
      by (Some number) some = issue_goes_on D t base knows n stamp before work (note_request t node number work) (note_op t work) (well node number refl some)

  next_goes : (work : Work) (server : ServerNo) → VotesWell D t base knows n stamp before work server → G work (vote_next t work server)
  next_goes work server well = by (owes_note t server work) refl
    where
      by : (b : Bool) → owes_note t server work ≡ b → G work (if b then issue_note t work.node.setting.audit work else vote_with t server (vote_of (server_at work.node.servers server) t work.room (vote_frame work)) work)
      by true owes = note_goes work work.node.setting.audit (well.notes owes)
      by false free = vote_goes work server (vote_of (server_at work.node.servers server) t work.room (vote_frame work)) (well.votes free)

  pass_goes : (work : Work) (part : Participant) → part_of t work ≡ Some part → part.outcome ≡ None → PassesWell D t base knows n stamp before work → G work (pass_rule t part work)
  pass_goes work part known undecided well = by (is_pass_due t part work) refl
    where
      by : (b : Bool) → is_pass_due t part work ≡ b → G work (if b then vote_pass t work else work)
      by true due = goes_then D t base knows n stamp before work (end_members t work) (vote_pass t work) (goes_left D t base knows n stamp before work (end_members t work) (ended_leaves t t work))
          (goes_fold D t base knows n stamp before (VotesWell D t base knows n stamp before) (vote_next t) next_goes (due_votes t work) (end_members t work) (well part known undecided due))
      by false off = goes_itself D t base knows n stamp before work

  -- its turn, once its own votes are cast
  pub turn_goes : (work : Work) → PassesWell D t base knows n stamp before work → G work (try t pass_rule work)
  turn_goes work well = by (part_of t work) refl
    where
      picked : (part : Participant) → part_of t work ≡ Some part → (o : Option Outcome) → part.outcome ≡ o → G work (if is_none o then pass_rule t part work else work)
      picked part known None undecided = pass_goes work part known undecided well
      picked part known (Some outcome) decided = goes_itself D t base knows n stamp before work

      by : (o : Option Participant) → part_of t work ≡ o → G work (elim o [ None ↦ work | Some part ↦ if is_undecided part then pass_rule t part work else work ])
      by None none = goes_itself D t base knows n stamp before work
      by (Some part) known = picked part known part.outcome refl

  own_goes : (work : Work) → PassesWell D t base knows n stamp before work → G work (settle_tid work t)
  own_goes work well = goes_then D t base knows n stamp before work (try t pass_rule work) (settle_tid work t) (turn_goes work well)
      (goes_left D t base knows n stamp before (try t pass_rule work) (settle_tid work t) (rest_leaves t t (try t pass_rule work)))

  pub settle_goes_on : (tid : Tid) (work : Work) → (tid ≡ t → PassesWell D t base knows n stamp before work) → G work (settle_tid work tid)
  settle_goes_on tid work well = by (same_tid tid t) refl
    where
      by : (b : Bool) → same_tid tid t ≡ b → G work (settle_tid work tid)
      by true same = let is : tid ≡ t = same_is tid t same in subst (λ (k : Tid). G work (settle_tid work k)) (sym is) (own_goes work (well is))
      by false apart = goes_left D t base knows n stamp before work (settle_tid work tid) (settle_leaves t tid apart work)

pub settle_goes : SettleGoes
settle_goes w t tid base knows n stamp before work well = settle_goes_on (IsDoomed w) t base knows n stamp before tid work well
