-- A home that is ready to commit, in the middle of its step: all places hold what they should, so the commit is unanimous.
use Rattle.std.specs.Prelude.{◌≡◌, ◌⊎◌, ℕ, ◌<◌, ◌==◌, true, false, Some, None}
use Rattle.qs_base.specs.declared.identifiers.ServerNo.{ServerNo}
use Rattle.qs_base.specs.declared.identifiers.Tid.{Tid}
use Rattle.qs_book_machine.specs.Book.{BookValue, find_transaction}
use Rattle.qs_book_machine.specs.Transaction.{TransactionValue, is_unanimous}
use Rattle.qs_node_step.specs.Settling.{may_answer}
use Rattle.qs_node_step.specs.State.{Work, part_of}
use Rattle.qs_tm.specs.declared.participant.Participant.{Participant}
use Rattle.qs_world.specs.World.{World}
use Rattle.qs_world_agree.specs.World as machine
use Rattle.qs_world_agree.specs.Doomed.{IsDoomed}
use Rattle.qs_world_refine.specs.CommitLaws.{has_request}
use Rattle.qs_world_refine.specs.Links.{node_no}
use Rattle.qs_world_refine.specs.Messages.{all_said}
use Rattle.qs_world_refine.specs.Shows.{Scene, scene_of}
use Rattle.qs_world_refine.specs.Sound.{is_sound}
use Rattle.qs_world_refine.specs.Stands.{Stands}
use Rattle.qs_world_lawful.specs.Holds.{HoldsStill}
use Rattle.qs_world_runs.specs.Placed.{Field, asked, field_of}
use Rattle.qs_world_runs.specs.PlacesAmid.{PlacedAmid, book_amid}

-- the same nodes, and what is asked for on a way is said there
pub record ShowsField (t : Tid) (scene : Scene) (field : Field) : Type 0 where
  pub size : field.size ≡ scene.size
  pub up : (k : ℕ) → field.up k ≡ scene.up k
  pub inc : (k : ℕ) → field.inc k ≡ scene.inc k
  pub node : (k : ℕ) → field.node k ≡ scene.node k
  pub ways : (p q : ℕ) → ((i : ℕ) → has_request (all_said t (scene.pending p i q (scene.inc q))) ≡ false) → (server : ServerNo) (number : ℕ) → asked t server number (field.sent p q) ≡ 0
  pub keeps : (p q : ℕ) → (scene.up p ≡ true → scene.knows p q ≡ 0 → has_request (all_said t (scene.unmet p q)) ≡ false) → (server : ServerNo) (number : ℕ) → asked t server number (field.kept p q) ≡ 0

-- as the field of a world does
abbrev pub WorldShowsField : Type 0
WorldShowsField = (t : Tid) (world : World) → ShowsField t (scene_of world) (field_of world)

-- another node that runs
pub record IsBeside (scene : Scene) (book : BookValue) (k : ℕ) : Type 0 where
  pub sound : is_sound (scene.node k) ≡ true
  pub at : (scene.node k).setting.node ≡ node_no k
  pub inc : (scene.node k).setting.inc ≡ scene.inc k
  pub holds : HoldsStill book (scene.node k)

abbrev pub HomeCommitsUnanimous : Type 0
HomeCommitsUnanimous = (t : Tid) (scene : Scene) (base : Field) (stamp : ℕ) (before : BookValue) (work : Work) (part : Participant) (v : machine.World) (tx : TransactionValue)
    → Stands t scene t.home.0 work v → ShowsField t scene base → IsDoomed v ⊎ PlacedAmid t base (scene.knows t.home.0) t.home.0 stamp before work
    → ((k : ℕ) → k < scene.size → scene.up k ≡ true → (k == t.home.0) ≡ false → IsBeside scene (book_amid t.home.0 stamp before work) k) → HoldsStill (book_amid t.home.0 stamp before work) work.node
    → part_of t work ≡ Some part → part.outcome ≡ None → may_answer t part work ≡ true → find_transaction (book_amid t.home.0 stamp before work) t ≡ Some tx → is_unanimous tx ≡ true
