-- What the rules of a step keep of the log, after a lawful history.
use Rattle.qs_world_lawful.proofs.Words.{◌≡◌, ◌==◌, false, ℕ, List, Some, None, Act, ServerNo, Tid, Entry, IsCoherent, opening_holds, Inv, ran, IsLawful, book_after, broken, effect, opening, Opened, Vote, Record, Work, after_step, effects_of, vote_with, Event, Manager, entry_of, entries_of, Host, Participant, HoldsHost, IsTrueEvent, KeepsLogs}
use Rattle.qs_node_step.specs.State.{part_of}
use Rattle.qs_world.specs.Moves.{log_after, waiting_after}
use Rattle.qs_world_lawful.proofs.LogKeeps.{by_quiet}
use Rattle.qs_world_lawful.proofs.LogOthers.{by_other}
use Rattle.qs_world_lawful.proofs.LogSteps.{host_kept}
use Rattle.qs_world_lawful.proofs.LogVoting.{by_vote_with}
use Rattle.qs_world_lawful.proofs.Recordless.{Quiet}

module _ (opened : List Opened) (history : List Entry) (coherent : IsCoherent opened) (lawful : IsLawful (opening opened) history) where
  pub inv_is : Inv (book_after (opening opened) history)
  inv_is = (ran history (opening opened) (opening_holds opened coherent) lawful).inv

  pub vote_keeps : (stamp : ℕ) (disk waiting : List Record) (tid : Tid) (server : ServerNo) (work : Work) (part : Participant) → part_of tid work ≡ Some part → part.outcome ≡ None → (ballot : Vote) → KeepsLogs stamp (book_after (opening opened) history) disk waiting work (vote_with tid server ballot work)
  vote_keeps stamp disk waiting tid server work part known undecided ballot = by_vote_with stamp (book_after (opening opened) history) inv_is disk waiting tid server work part known undecided ballot

  pub quiet_keeps : (stamp : ℕ) (disk waiting : List Record) (work new : Work) → Quiet work new → KeepsLogs stamp (book_after (opening opened) history) disk waiting work new
  quiet_keeps stamp disk waiting work new q = by_quiet stamp (book_after (opening opened) history) inv_is disk waiting work new q

  pub step_keeps : (stamp : ℕ) (host : Host) (event : Event) (free : ℕ) → IsTrueEvent (book_after (opening opened) history) event → HoldsHost host.node.setting.node.0 (book_after (opening opened) history) host.node.manager host.log host.waiting
      → IsLawful (book_after (opening opened) history) (entries_of host.node.setting.node.0 stamp (effects_of host.node event free).entries)
      → HoldsHost host.node.setting.node.0 (book_after (book_after (opening opened) history) (entries_of host.node.setting.node.0 stamp (effects_of host.node event free).entries)) (after_step host.node event free).manager (log_after host (effects_of host.node event free)) (waiting_after host (effects_of host.node event free))
  step_keeps stamp host event free is h entered = host_kept stamp (book_after (opening opened) history) inv_is host.log host.waiting host.node event free is h entered

  pub others_keep : (stamp m n : ℕ) → (m == n) ≡ false → (manager : Manager) (disk waiting : List Record) (act : Act) → broken (book_after (opening opened) history) (entry_of m stamp act) ≡ None → HoldsHost n (book_after (opening opened) history) manager disk waiting → HoldsHost n (effect (book_after (opening opened) history) (entry_of m stamp act)) manager disk waiting
  others_keep stamp m n far manager disk waiting act entered h = by_other (book_after (opening opened) history) inv_is stamp m n far manager disk waiting act entered h
