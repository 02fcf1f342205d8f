-- What the machine has committed its home has, through each move: what a node enters decides nothing that began elsewhere.
use Rattle.qs_world_runs.proofs.Words.{◌≡◌, ℕ, ◌==◌, ◌||◌, Bool, true, false, List, [], Some, refl, sym, ap, subst, ◌∙◌, eqb-true, Tid, Act, BookValue, find_transaction, book_after, TransactionValue, is_commit, Work, entries_of, HoldsBeside, is_committed_at, HomesHave}
use Rattle.qs_book_machine.specs.Lawful.{IsLawful}
use Rattle.qs_node_step.specs.State.{NodeValue, no_effects}
use Rattle.qs_tm.specs.Manager as tm
use Rattle.qs_world_lawful.specs.Beside.{is_done}
use Rattle.qs_world_lawful.specs.Standing.{HoldsHomes}
use Rattle.qs_world_lawful.proofs.HomesStand.{homes_stand}

-- a step of the node that does no more than enter these
work_of : NodeValue → List Act → Work
work_of node acts = record { node = node; room = 0; doings = []; out = record no_effects { entries = acts } }

-- of what began elsewhere
others_have : (book : BookValue) (size : ℕ) (nodes : ℕ → NodeValue) (n stamp : ℕ) (node : NodeValue) (acts : List Act) → node.setting.node.0 ≡ n → IsLawful book (entries_of n stamp acts) → HomesHave book size nodes
    → HoldsHomes (book_after book (entries_of n stamp acts)) size nodes n
unfolding work_of
others_have book size nodes n stamp node acts at lawful homes = subst (λ (k : ℕ). HoldsHomes (book_after book (entries_of k stamp acts)) size nodes n) at
    (homes_stand stamp book size nodes n (work_of node acts) at (subst (λ (k : ℕ). IsLawful book (entries_of k stamp acts)) (sym at) lawful) (λ tid tx found committed in_run far. homes tid tx found committed in_run))

-- and of what began at a node that runs, from what the machine has beside it
pub own_has : (book : BookValue) (node : NodeValue) (n : ℕ) → node.setting.node.0 ≡ n → HoldsBeside book node → (tid : Tid) (tx : TransactionValue) → find_transaction book tid ≡ Some tx → is_commit tx.cell ≡ true → (tid.home.0 == n) ≡ true → is_committed_at node tid ≡ true
own_has book node n at beside tid tx found committed here = ap (λ (b : Bool). b || tm.told_of tid false (λ part. is_done part.outcome) node.manager) (((beside.at tid).ended tx home found).committed committed)
  where
    home : tid.home ≡ node.setting.node
    home = ap (λ (k : ℕ). record { 0 = k }) (eqb-true tid.home.0 n here ∙ sym at)

-- so of all, where a node that runs entered something, and the others stay
pub homes_after : (book : BookValue) (size : ℕ) (old new : ℕ → NodeValue) (n stamp : ℕ) (acts : List Act) → (old n).setting.node.0 ≡ n → (new n).setting.node.0 ≡ n → ((k : ℕ) → (k == n) ≡ false → new k ≡ old k)
    → IsLawful book (entries_of n stamp acts) → HoldsBeside (book_after book (entries_of n stamp acts)) (new n) → HomesHave book size old → HomesHave (book_after book (entries_of n stamp acts)) size new
homes_after book size old new n stamp acts at then same lawful beside homes tid tx found committed in_run = by (tid.home.0 == n) refl
  where
    by : (b : Bool) → (tid.home.0 == n) ≡ b → is_committed_at (new tid.home.0) tid ≡ true
    by true here = subst (λ (k : ℕ). is_committed_at (new k) tid ≡ true) (sym (eqb-true tid.home.0 n here)) (own_has (book_after book (entries_of n stamp acts)) (new n) n then beside tid tx found committed here)
    by false far = subst (λ (node : NodeValue). is_committed_at node tid ≡ true) (sym (same tid.home.0 far)) (others_have book size old n stamp (old n) acts at lawful homes tid tx found committed in_run far)
