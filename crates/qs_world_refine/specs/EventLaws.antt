-- The laws of single events of the agreement machine over all that is seen of a transaction: where what is seen allows it, the machine may.
use Rattle.std.specs.Prelude.{◌≡◌, ◌≢◌, ◌⊎◌, ℕ, ◌+◌, ◌<◌, ◌≤◌, ◌==◌, Bool, true, false, List, [], ◌∷◌, ◌++◌, if◌then◌else◌}
use Rattle.qs_base.specs.declared.identifiers.Class.TheVariants as classes
use Rattle.qs_base.specs.declared.identifiers.NodeNo.{NodeNo}
use Rattle.qs_base.specs.declared.identifiers.Tid.{Tid}
use Rattle.qs_ops.specs.Members.{class_of}
use Rattle.qs_ops.specs.declared.operation.Op.{Op}
use Rattle.qs_restart.specs.Recovery.{Recovery}
use Rattle.qs_world_agree.specs.World.{World, Open, Committed, Aborted, OnePhase, with_at}
use Rattle.qs_world_agree.specs.Carry.{IsLawful}
use Rattle.qs_world_refine.specs.Links.{Said, Requested, Closed, names_node, node_no}
use Rattle.qs_world_refine.specs.Places.{place, class_in}
use Rattle.qs_world_refine.specs.Sights.{Sight, ShowsSight, is_in_doubt}
use Rattle.qs_world_refine.specs.Seen.{FaceReady, MayVote, Runs, Meets, SightGoes, AckGoes, NamedGoes, took_in, engaged_by, served_one, lent_one, sight_faced, sight_taken, sight_returned, sight_engaged, sight_covered, sight_issued, sight_counted, sight_prepared, sight_agreed, sight_committed, sight_told, sight_learnt, sight_noticed}

-- a Covered or VotedYes is counted: Count
abbrev pub CountGoes : Type 0
CountGoes = (tid : Tid) (x : Sight) (w : World) (n m i number : ℕ) (told : List NodeNo) (rest : List Said) → ShowsSight tid x w → Runs x n → Meets x n m i
    → x.said m i n (x.inc n) ≡ Closed number told ∷ rest → (x.face n).outcome ≡ Open
    → SightGoes tid (sight_counted x n m i number (λ k. names_node told (node_no k)) rest) w

-- a request goes to another node: Issue
abbrev pub IssueGoes : Type 0
IssueGoes = (tid : Tid) (x : Sight) (w : World) (n m i s : ℕ) → IsLawful w → ShowsSight tid x w → Runs x n → Meets x n m i
    → ((x.face n).on ≡ true) ⊎ (((x.face n).outcome ≡ Open) × (1 ≤ (x.face n).loans))
    → SightGoes tid (sight_issued x n m i s) w

-- a request gives a node its superior: Engage
abbrev pub EngageGoes : Type 0
EngageGoes = (tid : Tid) (x : Sight) (w : World) (n m i number s : ℕ) (rest : List Said) → ShowsSight tid x w → Runs x n → Meets x n m i
    → x.said m i n (x.inc n) ≡ Requested number s ∷ rest → (x.face n).outcome ≡ Open → (x.face n).on ≡ false → tid.home.0 ≢ n → tid.home.0 < x.size
    → SightGoes tid (sight_engaged x n m i number s rest) w

-- a request comes from the superior: Join
abbrev pub JoinGoes : Type 0
JoinGoes = (tid : Tid) (x : Sight) (w : World) (n m i number s : ℕ) (rest : List Said) → ShowsSight tid x w → Runs x n → Meets x n m i
    → x.said m i n (x.inc n) ≡ Requested number s ∷ rest → (x.face n).outcome ≡ Open → (x.face n).on ≡ true → (x.face n).is_home ≡ false → (x.face n).superior ≡ m → place n (x.inc n) ≢ w.home
    → SightGoes tid (sight_taken x n m i (took_in (x.face n) m number s) rest) w

-- where abort is known a request is dropped, and gives a superior where there is none: Drop_engage
abbrev pub DropEngageGoes : Type 0
DropEngageGoes = (tid : Tid) (x : Sight) (w : World) (n m i number s : ℕ) (rest : List Said) → ShowsSight tid x w → Runs x n → Meets x n m i
    → x.said m i n (x.inc n) ≡ Requested number s ∷ rest → (x.face n).outcome ≡ Aborted → (x.face n).on ≡ false → tid.home.0 ≢ n → tid.home.0 < x.size
    → SightGoes tid (sight_taken x n m i (record (engaged_by (x.face n) m) { last = with_at (x.face n).last m number }) rest) w

-- and one from the superior is dropped: Drop_join
abbrev pub DropJoinGoes : Type 0
DropJoinGoes = (tid : Tid) (x : Sight) (w : World) (n m i number s : ℕ) (rest : List Said) → ShowsSight tid x w → Runs x n → Meets x n m i
    → x.said m i n (x.inc n) ≡ Requested number s ∷ rest → (x.face n).outcome ≡ Aborted → (x.face n).on ≡ true → (x.face n).is_home ≡ false → (x.face n).superior ≡ m → place n (x.inc n) ≢ w.home
    → SightGoes tid (sight_taken x n m i (record (x.face n) { last = with_at (x.face n).last m number }) rest) w

-- and one from another is dropped, and covered at once: Drop_cover
abbrev pub DropCoverGoes : Type 0
DropCoverGoes = (tid : Tid) (x : Sight) (w : World) (n m i number s : ℕ) (rest : List Said) → IsLawful w → ShowsSight tid x w → Runs x n → Meets x n m i
    → x.said m i n (x.inc n) ≡ Requested number s ∷ rest → (x.face n).outcome ≡ Aborted → (x.face n).on ≡ true → (x.face n).is_home ≡ false → (x.face n).superior ≢ m
    → SightGoes tid (sight_returned x n m i number (record (x.face n) { last = with_at (x.face n).last m number }) rest) w

-- at the home's node, where the transaction does not run: Drop_cover; nobody reads there whose number came last
abbrev pub DropHomeGoes : Type 0
DropHomeGoes = (tid : Tid) (x : Sight) (w : World) (n m i number s : ℕ) (rest : List Said) (last : ℕ → ℕ) → IsLawful w → ShowsSight tid x w → Runs x n → Meets x n m i
    → x.said m i n (x.inc n) ≡ Requested number s ∷ rest → tid.home.0 ≡ n → (x.face n).on ≡ false
    → SightGoes tid (sight_returned x n m i number (record (x.face n) { last = last }) rest) w

-- a Covered or VotedYes comes to a place that is not engaged: Ignore
abbrev pub IgnoreGoes : Type 0
IgnoreGoes = (tid : Tid) (x : Sight) (w : World) (n m i number : ℕ) (told : List NodeNo) (rest : List Said) → ShowsSight tid x w → Runs x n → Meets x n m i
    → x.said m i n (x.inc n) ≡ Closed number told ∷ rest → (x.face n).on ≡ false
    → SightGoes tid (sight_taken x n m i (x.face n) rest) w

-- a request comes to the home, or from another than the superior: Cover
abbrev pub CoverGoes : Type 0
CoverGoes = (tid : Tid) (x : Sight) (w : World) (n m i number s : ℕ) (rest : List Said) → IsLawful w → ShowsSight tid x w → Runs x n → Meets x n m i
    → x.said m i n (x.inc n) ≡ Requested number s ∷ rest → (x.face n).outcome ≡ Open → (x.face n).on ≡ true
    → (((x.face n).is_home ≡ true) × (place n (x.inc n) ≡ w.home)) ⊎ (((x.face n).is_home ≡ false) × (m ≢ (x.face n).superior))
    → SightGoes tid (sight_covered x n m i number s rest) w

-- a server that votes, or is told nothing, serves a request: Serve
abbrev pub ServeGoes : Type 0
ServeGoes = (tid : Tid) (x : Sight) (w : World) (n s left : ℕ) → ShowsSight tid x w → Runs x n → (x.face n).outcome ≡ Open → (x.face n).waits s ≡ left + 1
    → (class_of s ≡ classes.Recoverable) ⊎ ((class_of s ≡ classes.Volatile) ⊎ (class_of s ≡ classes.Immediate))
    → SightGoes tid (sight_faced x n (served_one (x.face n) s left)) w

-- a server that is told without a vote serves one: Serve_told
abbrev pub ServeToldGoes : Type 0
ServeToldGoes = (tid : Tid) (x : Sight) (w : World) (n s left : ℕ) → ShowsSight tid x w → Runs x n → (x.face n).outcome ≡ Open → (x.face n).waits s ≡ left + 1
    → class_in (class_of s) ≡ OnePhase
    → SightGoes tid (sight_faced x n (record (served_one (x.face n) s left) { involved = true })) w

-- the transaction is lent to a client: Lend
abbrev pub LendGoes : Type 0
LendGoes = (tid : Tid) (x : Sight) (w : World) (n s left : ℕ) → ShowsSight tid x w → Runs x n → (x.face n).outcome ≡ Open → (x.face n).waits s ≡ left + 1
    → class_of s ≡ classes.Activity
    → SightGoes tid (sight_faced x n (lent_one (x.face n) s left)) w

-- a place is asked for its vote: Ask
abbrev pub AskGoes : Type 0
AskGoes = (tid : Tid) (x : Sight) (w : World) (n : ℕ) → ShowsSight tid x w → Runs x n → SightGoes tid (sight_faced x n (record (x.face n) { asked = true })) w

-- a loan is given back: Yield
abbrev pub YieldGoes : Type 0
YieldGoes = (tid : Tid) (x : Sight) (w : World) (n left : ℕ) → ShowsSight tid x w → Runs x n → (x.face n).outcome ≡ Open → (x.face n).loans ≡ left + 1
    → SightGoes tid (sight_faced x n (record (x.face n) { loans = left })) w

-- a request goes to a server of its own node: Issue_local
abbrev pub IssueLocalGoes : Type 0
IssueLocalGoes = (tid : Tid) (x : Sight) (w : World) (n s : ℕ) → ShowsSight tid x w → Runs x n
    → ((x.face n).on ≡ true) ⊎ (((x.face n).outcome ≡ Open) × (1 ≤ (x.face n).loans))
    → SightGoes tid (sight_faced x n (record (x.face n) { waits = with_at (x.face n).waits s ((x.face n).waits s + 1) })) w

-- a server votes read-only: Vote_read
abbrev pub VoteReadGoes : Type 0
VoteReadGoes = (tid : Tid) (x : Sight) (w : World) (n s : ℕ) → ShowsSight tid x w → Runs x n → MayVote (x.face n) s → (class_of s ≡ classes.Recoverable) ⊎ (class_of s ≡ classes.Volatile)
    → SightGoes tid (sight_faced x n (record (x.face n) { uncast = with_at (x.face n).uncast s 0 })) w

-- a server votes volatile: Vote_volatile
abbrev pub VoteVolatileGoes : Type 0
VoteVolatileGoes = (tid : Tid) (x : Sight) (w : World) (n s : ℕ) → ShowsSight tid x w → Runs x n → MayVote (x.face n) s → class_of s ≡ classes.Volatile
    → SightGoes tid (sight_faced x n (record (x.face n) { uncast = with_at (x.face n).uncast s 0; involved = true })) w

-- a server votes against a commit: Vote_abort, and Vote_read, since the vote counts as cast
abbrev pub VoteAbortGoes : Type 0
VoteAbortGoes = (tid : Tid) (x : Sight) (w : World) (n s : ℕ) → ShowsSight tid x w → Runs x n → MayVote (x.face n) s → (class_of s ≡ classes.Recoverable) ⊎ (class_of s ≡ classes.Volatile)
    → SightGoes tid (sight_faced x n (record (x.face n) { uncast = with_at (x.face n).uncast s 0; blocked = true })) w

-- a server votes recoverable, and its Prepare is on the disk: Vote_recoverable
abbrev pub PrepareGoes : Type 0
PrepareGoes = (tid : Tid) (x : Sight) (w : World) (n s covers : ℕ) (changes : List Op) → ShowsSight tid x w → Runs x n
    → (x.face n).outcome ≡ Open → (x.face n).asked ≡ true → ((r : ℕ) → (x.face n).waits r ≡ 0) → (x.face n).loans ≡ 0 → 1 ≤ (x.face n).uncast s → class_of s ≡ classes.Recoverable
    → SightGoes tid (sight_prepared tid x n s covers changes) w

-- a node that is ready answers its superior, which has not restarted since: Yes
abbrev pub AgreeGoes : Type 0
AgreeGoes = (tid : Tid) (x : Sight) (w : World) (n m i : ℕ) (told : List NodeNo) → IsLawful w → ShowsSight tid x w → Runs x n → Meets x n m i
    → (x.face n).is_home ≡ false → place n (x.inc n) ≢ w.home → FaceReady (x.face n) (place n (x.inc n)) w → (x.face n).superior ≡ m → w.engager (place n (x.inc n)) ≡ place m i
    → ((k : ℕ) → names_node told (node_no k) ≡ (if (x.face n).told k then true else (if k == n then (x.face n).involved else false)))
    → SightGoes tid (sight_agreed x n m i told) w

-- the same, whether its superior has restarted since or not: Yes, or Yes_lost
abbrev pub AnswerGoes : Type 0
AnswerGoes = (tid : Tid) (x : Sight) (w : World) (n m i : ℕ) (told : List NodeNo) → IsLawful w → ShowsSight tid x w → Runs x n → Meets x n m i
    → (x.face n).is_home ≡ false → place n (x.inc n) ≢ w.home → FaceReady (x.face n) (place n (x.inc n)) w → (x.face n).superior ≡ m
    → ((k : ℕ) → names_node told (node_no k) ≡ (if (x.face n).told k then true else (if k == n then (x.face n).involved else false)))
    → SightGoes tid (sight_agreed x n m i told) w

-- the home is ready, and its Commit is on the disk: Commit
abbrev pub CommitGoes : Type 0
CommitGoes = (tid : Tid) (x : Sight) (w : World) (first : NodeNo) (others : List NodeNo) → IsLawful w → ShowsSight tid x w → Runs x tid.home.0 → x.inc tid.home.0 ≡ tid.inc
    → (x.face tid.home.0).is_home ≡ true → FaceReady (x.face tid.home.0) (place tid.home.0 (x.inc tid.home.0)) w
    → ((m : ℕ) → (x.face tid.home.0).told m ≡ names_node (first ∷ others) (node_no m)) → w.unended ≡ false
    → SightGoes tid (sight_committed tid x (first ∷ others)) w

-- nobody is to be told, and its log has nothing of it: Commit_unlogged
abbrev pub CommitUnloggedGoes : Type 0
CommitUnloggedGoes = (tid : Tid) (x : Sight) (w : World) → IsLawful w → ShowsSight tid x w → Runs x tid.home.0 → x.inc tid.home.0 ≡ tid.inc
    → (x.face tid.home.0).is_home ≡ true → FaceReady (x.face tid.home.0) (place tid.home.0 (x.inc tid.home.0)) w
    → ((m : ℕ) → (x.face tid.home.0).told m ≡ false) → ((s : ℕ) → w.prepared tid.home.0 s ≡ false)
    → SightGoes tid (sight_faced x tid.home.0 (record (x.face tid.home.0) { on = false; outcome = Committed })) w

-- a node of the home tells commit: Tell
abbrev pub TellGoes : Type 0
TellGoes = (tid : Tid) (x : Sight) (w : World) (n m i : ℕ) → ShowsSight tid x w → Runs x n → m < x.size → (x.face n).outcome ≡ Committed → n ≡ tid.home.0
    → SightGoes tid (sight_told x n m i) w

-- another node than the home learns commit, and nothing stays in doubt in its log: Learn
abbrev pub LearnGoes : Type 0
LearnGoes = (tid : Tid) (x : Sight) (w : World) (n : ℕ) (found : Recovery) → ShowsSight tid x w → Runs x n → (x.face n).outcome ≡ Open → (x.face n).involved ≡ true → w.tell_commit n ≡ true
    → w.peer (place n (x.inc n)) tid.home.0 ≢ 0 → tid.home.0 ≢ n → tid.home.0 < x.size → ((s : ℕ) → is_in_doubt tid s found ≡ false)
    → AckGoes tid (sight_learnt x n found) w (place n (x.inc n))

-- or abort: Learn_abort; it tells nobody
abbrev pub LearnAbortGoes : Type 0
LearnAbortGoes = (tid : Tid) (x : Sight) (w : World) (n : ℕ) → IsLawful w → ShowsSight tid x w → Runs x n → (x.face n).outcome ≡ Open → w.tell_abort n ≡ true
    → w.peer (place n (x.inc n)) tid.home.0 ≢ 0 → tid.home.0 ≢ n → tid.home.0 < x.size → ((m : ℕ) → (x.face n).tell m ≡ false)
    → NamedGoes tid x (sight_faced x n (record (x.face n) { outcome = Aborted })) w n

-- one that knows it, or has nothing to learn, acknowledges it: Acknowledge
abbrev pub AcknowledgeGoes : Type 0
AcknowledgeGoes = (tid : Tid) (x : Sight) (w : World) (n : ℕ) → ShowsSight tid x w → Runs x n → w.tell_commit n ≡ true
    → w.peer (place n (x.inc n)) tid.home.0 ≢ 0 → tid.home.0 ≢ n → tid.home.0 < x.size
    → ((x.face n).outcome ≡ Committed) ⊎ (((x.face n).outcome ≡ Open) × ((x.face n).involved ≡ false) × ((x.face n).on ≡ false))
    → AckGoes tid (sight_faced x n (x.face n)) w (place n (x.inc n))

-- another node than the home that knows abort names again whom it drew in: Name_again
abbrev pub NameAgainGoes : Type 0
NameAgainGoes = (tid : Tid) (x : Sight) (w : World) (n : ℕ) → ShowsSight tid x w → Runs x n → (x.face n).outcome ≡ Aborted → tid.home.0 ≢ n → tid.home.0 < x.size
    → NamedGoes tid x (sight_faced x n (x.face n)) w n

-- a node finds that another one restarted: Notice
abbrev pub NoticeGoes : Type 0
NoticeGoes = (tid : Tid) (x : Sight) (w : World) (n m i new : ℕ) (blocked : Bool) → IsLawful w → ShowsSight tid x w → Runs x n → Meets x n m i → i < new → new ≤ x.inc m
    → x.said n (x.inc n) m new ≡ [] → ((x.face n).outcome ≡ Open → blocked ≡ false → ((x.face n).blocked ≡ false) × (w.covered (place n (x.inc n)) m ≡ (x.face n).sent m))
    → SightGoes tid (sight_noticed x n m new blocked) w

-- a node stops, and what it has put is a part of what it would have put: Crash
pub record IsCut (x y : Sight) (n : ℕ) : Type 0 where
  pub size : y.size ≡ x.size
  pub inc : y.inc ≡ x.inc
  pub knows : (a b : ℕ) → a ≢ n → y.knows a b ≡ x.knows a b
  pub found : (k : ℕ) → y.found k ≡ x.found k
  pub up : (k : ℕ) → y.up k ≡ (if k == n then false else x.up k)
  pub faces : (k : ℕ) → k ≢ n → y.face k ≡ x.face k
  pub unmet : (a b : ℕ) → a ≢ n → y.unmet a b ≡ x.unmet a b
  pub said_other : (a k b l : ℕ) → (a ≡ n → k ≡ x.inc n → ⊥) → b ≢ n → y.said a k b l ≡ x.said a k b l
  pub said_cut : (b l : ℕ) → b ≢ n → (more : List Said) × (x.said n (x.inc n) b l ≡ y.said n (x.inc n) b l ++ more)

abbrev pub CrashGoes : Type 0
CrashGoes = (tid : Tid) (x y : Sight) (w : World) (n : ℕ) → ShowsSight tid x w → Runs x n → IsCut x y n → SightGoes tid y w
