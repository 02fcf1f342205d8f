-- What a member has pending of a transaction after each act of a node that is up.
use Rattle.qs_book_laws.proofs.Words.{◌≡◌, ◌⊎◌, ℕ, Bool, true, false, List, [], ◌++◌, ◌==◌, ◌&&◌, Option, Some, None, inl, inr, refl, sym, ap, subst, ◌∙◌, arith, if◌then◌else◌, nat_tests, unwrap_or, slice_get, slice_set, option_map, append-nil, same_tid, Member, Outcome, Tid, Op, Reply, Vote, TableValue, share_of, served, released, committed, timer_served, timers_ended, Share, TransactionValue, is_crossed, standing_request, requests_at, Request, RequestNo, changed_at, serve_node, server_serve}
use Rattle.qs_book_laws.proofs.Words.{crossed_serve, is_done, vote_node, crossed_in, learn_node, doubts_after, NodeValue, with_table, crossed_node, crossed_server, crossed_names, crossed_table, pending_at, is_share, change_of_request, standing_at, eq-eqb}
use Rattle.qs_base.specs.declared.identifiers.Outcome.TheVariants as outcomes
use Rattle.qs_ops.specs.declared.vote.Vote.TheVariants as votes
use Rattle.qs_ops.specs.Table.{change_by, with_vote}
use Rattle.qs_book_machine.specs.Nodes.{with_doubts, bound_names}
use Rattle.qs_book_laws.proofs.Faces.{either_way}
use Rattle.qs_book_laws.proofs.Maps.{set_at_either, changed_at_alike, changed_at_here}
use Rattle.qs_book_laws.proofs.Shares.{share_served, share_served_other, share_released_other, share_voted, number, table, table_mine, table_other}

-- ---- a node

-- what is pending of the transaction at files or audit
abbrev pub changes_in : Bool → Tid → NodeValue → List Op
changes_in b tid v = (share_of (table b v) tid).changes

-- a change of a server's table that leaves what the transaction has there, or is of another server
pub with_table_holds : (b : Bool) (tid : Tid) (s : ℕ) (f : TableValue → TableValue) → ((s ≡ number b) → (t : TableValue) → (share_of (f t) tid).changes ≡ (share_of t tid).changes)
    → (v : NodeValue) → changes_in b tid (with_table s f v) ≡ changes_in b tid v
with_table_holds b tid s f keeps v = by (s == number b) refl
  where
    equal : (c : Bool) → (s == number b) ≡ c → c ≡ true → s ≡ number b
    equal c is h = grind (arith, nat_tests)

    by : (c : Bool) → (s == number b) ≡ c → changes_in b tid (with_table s f v) ≡ changes_in b tid v
    by true is =
        let e : s ≡ number b = equal true is refl in
        subst (λ (n : ℕ). changes_in b tid (with_table n f v) ≡ changes_in b tid v) (sym e)
        (ap (λ (t : TableValue). (share_of t tid).changes) (table_mine b f v) ∙ keeps e (table b v))
    by false is = ap (λ (t : TableValue). (share_of t tid).changes) (table_other b s f v is)

-- where it changes the table of this server
pub with_table_gives : (b : Bool) (tid : Tid) (s : ℕ) (f : TableValue → TableValue) → s ≡ number b
    → (v : NodeValue) → changes_in b tid (with_table s f v) ≡ (share_of (f (table b v)) tid).changes
with_table_gives b tid s f e v =
    subst (λ (n : ℕ). changes_in b tid (with_table n f v) ≡ (share_of (f (table b v)) tid).changes) (sym e)
    (ap (λ (t : TableValue). (share_of t tid).changes) (table_mine b f v))

crossed_server_holds : (b : Bool) (tid t : Tid) (s : ℕ) → ((s ≡ number b) → same_tid t tid ≡ false) → (v : NodeValue) → changes_in b tid (crossed_server t s v) ≡ changes_in b tid v
crossed_server_holds b tid t s other v = at (s == 2) (s == 3) refl
  where
    keeps : (n : ℕ) → (n ≡ number b → same_tid t tid ≡ false) → (u : NodeValue) → changes_in b tid (crossed_table t n u) ≡ changes_in b tid u
    keeps n apart u = with_table_holds b tid n (λ table. released table t) (λ e x. ap (λ (share : Share). share.changes) (share_released_other x t tid (apart e))) u

    no_names : (c : Bool) → 2 ≡ number c → same_tid t tid ≡ false
    no_names true e = absurd (cc e)
    no_names false e = absurd (cc e)

    doubts : (names : List (List ℕ)) (c : Bool) → changes_in c tid (with_doubts t names v) ≡ changes_in c tid v
    doubts names true = refl
    doubts names false = refl

    timers : (c : Bool) → changes_in c tid (record v { timers = timers_ended v.timers t }) ≡ changes_in c tid v
    timers true = refl
    timers false = refl

    at : (x y : Bool) → (s == 2) ≡ x → changes_in b tid (if x then crossed_names t v else if y then record v { timers = timers_ended v.timers t } else crossed_table t s v) ≡ changes_in b tid v
    at true y is = keeps 2 (no_names b) (with_doubts t (bound_names (pending_at v t 2)) v) ∙ doubts (bound_names (pending_at v t 2)) b
    at false true is = timers b
    at false false is = keeps s other v

crossed_holds : (b : Bool) (tid t : Tid) (s : ℕ) → ((s ≡ number b) → same_tid t tid ≡ false) → (v : NodeValue) → changes_in b tid (crossed_node t s v) ≡ changes_in b tid v
crossed_holds b tid t s other v = either_way (changes_in b tid) v.up (crossed_server t s v) v (changes_in b tid v) (crossed_server_holds b tid t s other v) refl

-- ---- the nodes of a book

-- what is pending of the transaction at that node
abbrev pub held_in : Bool → Tid → ℕ → List NodeValue → List Op
held_in b tid n nodes = unwrap_or (option_map (changes_in b tid) (slice_get nodes n)) []

pub holds_same : (b : Bool) (tid : Tid) (n here : ℕ) (f : NodeValue → NodeValue) → ((v : NodeValue) → changes_in b tid (f v) ≡ changes_in b tid v) → (nodes : List NodeValue)
    → held_in b tid n (changed_at here f nodes) ≡ held_in b tid n nodes
holds_same b tid n here f keeps nodes = ap (λ (o : Option (List Op)). unwrap_or o []) (changed_at_alike (changes_in b tid) f keeps nodes here n)

pub elsewhere : {X : Type 0} (f : X → X) (xs : List X) (i j : ℕ) → (i == j) ≡ false → slice_get (changed_at i f xs) j ≡ slice_get xs j
elsewhere {X} f xs i j far = by (slice_get xs i) refl
  where
    at : (v : X) → ((j ≡ i) × (slice_get xs j ≡ Some v) × (slice_get (slice_set xs i (f v)) j ≡ Some (f v))) ⊎ (slice_get (slice_set xs i (f v)) j ≡ slice_get xs j) → slice_get (slice_set xs i (f v)) j ≡ slice_get xs j
    at v (inl is) = absurd (differ is.0 far)
      where
        differ : j ≡ i → (i == j) ≡ false → ⊥
        differ e far_off = grind (arith, nat_tests)
    at v (inr is) = is

    by : (o : Option X) → slice_get xs i ≡ o → slice_get (elim o [ None ↦ xs | Some x ↦ slice_set xs i (f x) ]) j ≡ slice_get xs j
    by None is = refl
    by (Some v) is = at v (set_at_either xs i j v (f v) is)

pub holds_far : (b : Bool) (tid : Tid) (n here : ℕ) (f : NodeValue → NodeValue) → (here == n) ≡ false → (nodes : List NodeValue) → held_in b tid n (changed_at here f nodes) ≡ held_in b tid n nodes
holds_far b tid n here f far nodes = ap (λ (o : Option NodeValue). unwrap_or (option_map (changes_in b tid) o) []) (elsewhere f nodes here n far)

pub holds_more : (b : Bool) (tid : Tid) (n : ℕ) (f : NodeValue → NodeValue) (more : List Op) → ((v : NodeValue) → changes_in b tid (f v) ≡ changes_in b tid v ++ more) → (nodes : List NodeValue) (node : NodeValue)
    → slice_get nodes n ≡ Some node → held_in b tid n (changed_at n f nodes) ≡ held_in b tid n nodes ++ more
holds_more b tid n f more adds nodes node at =
    ap (λ (o : Option NodeValue). unwrap_or (option_map (changes_in b tid) o) []) (changed_at_here f nodes n node at)
    ∙ (adds node ∙ ap (λ (o : Option NodeValue). unwrap_or (option_map (changes_in b tid) o) [] ++ more) (sym at))

-- ---- acts that change tables

-- an act on the share of another transaction or member; or on this one's, which it leaves
pub at_share : (b : Bool) (tid : Tid) (member : Member) → member.server.0 ≡ number b → (t : Tid) (other : Member) (f : NodeValue → NodeValue)
    → ((v : NodeValue) → (other.server.0 ≡ number b → same_tid t tid ≡ false) → changes_in b tid (f v) ≡ changes_in b tid v)
    → is_share tid member t other ≡ false → (nodes : List NodeValue) → held_in b tid member.node.0 (changed_at other.node.0 f nodes) ≡ held_in b tid member.node.0 nodes
at_share b tid member is t other f keeps apart nodes = by (other.node.0 == member.node.0) refl
  where
    by : (c : Bool) → (other.node.0 == member.node.0) ≡ c → held_in b tid member.node.0 (changed_at other.node.0 f nodes) ≡ held_in b tid member.node.0 nodes
    by false far = holds_far b tid member.node.0 other.node.0 f far nodes
    by true near = holds_same b tid member.node.0 other.node.0 f (λ v. keeps v not_both) nodes
      where
        split : (x y z : Bool) → (x && (y && z)) ≡ false → y ≡ true → z ≡ true → x ≡ false
        split true true true h yes_y yes_z = absurd (cc h)
        split false y z h yes_y yes_z = refl
        split true false z h yes_y yes_z = absurd (cc yes_y)
        split true true false h yes_y yes_z = absurd (cc yes_z)

        not_both : other.server.0 ≡ number b → same_tid t tid ≡ false
        not_both e = split (same_tid t tid) (other.node.0 == member.node.0) (other.server.0 == member.server.0) apart near (eq-eqb other.server.0 member.server.0 (e ∙ sym is))

pub crossing_holds : (b : Bool) (tid : Tid) (member : Member) → member.server.0 ≡ number b → (t : Tid) (other : Member) → is_share tid member t other ≡ false → (nodes : List NodeValue)
    → held_in b tid member.node.0 (changed_at other.node.0 (crossed_node t other.server.0) nodes) ≡ held_in b tid member.node.0 nodes
crossing_holds b tid member is t other apart nodes =
    at_share b tid member is t other (crossed_node t other.server.0) (λ v h. crossed_holds b tid t other.server.0 h v) apart nodes

-- ---- serving

serve_table : Tid → Op → Reply → TableValue → TableValue
serve_table t op reply table = served table t op reply

server_serve_holds : (b : Bool) (tid t : Tid) (s : ℕ) (op : Op) (reply : Reply) → (s ≡ number b → same_tid t tid ≡ false) → (v : NodeValue) → changes_in b tid (server_serve s t op reply v) ≡ changes_in b tid v
server_serve_holds b tid t s op reply other v =
    either_way (changes_in b tid) (s == 3) _ _ _ (timers b)
    (with_table_holds b tid s (λ table. served table t op reply) (λ e x. ap (λ (share : Share). share.changes) (share_served_other x t tid op reply (other e))) v)
  where
    timers : (c : Bool) → changes_in c tid (record v { timers = timer_served v.timers t op reply }) ≡ changes_in c tid v
    timers true = refl
    timers false = refl

server_serve_gives : (b : Bool) (t : Tid) (s : ℕ) (op : Op) (reply : Reply) → s ≡ number b → (v : NodeValue) → changes_in b t (server_serve s t op reply v) ≡ changes_in b t v ++ change_by op reply
server_serve_gives b t s op reply e v =
    let apart : (s == 3) ≡ false = no_timers b e in
    rw apart (with_table_gives b t s (λ table. served table t op reply) e v ∙ share_served (table b v) t op reply)
  where
    no_timers : (c : Bool) → s ≡ number c → (s == 3) ≡ false
    no_timers true is = rw is refl
    no_timers false is = rw is refl

crossed_serve_holds : (b : Bool) (tid t : Tid) (s : ℕ) (requests : List Request) (reply : Reply) (v : NodeValue) → changes_in b tid (crossed_serve s t requests reply v) ≡ changes_in b tid v
crossed_serve_holds true tid t s requests reply v = either_way (changes_in true tid) ((s == 2) && is_done reply) _ _ _ refl refl
crossed_serve_holds false tid t s requests reply v = either_way (changes_in false tid) ((s == 2) && is_done reply) _ _ _ refl refl

pub serve_holds : (b : Bool) (tid t : Tid) (o : Option TransactionValue) (at : RequestNo) (other : Member) (reply : Reply) (v : NodeValue) → (other.server.0 ≡ number b → same_tid t tid ≡ false)
    → changes_in b tid (serve_node o at t other reply v) ≡ changes_in b tid v
serve_holds b tid t None at other reply v apart = refl
serve_holds b tid t (Some tx) at other reply v apart =
    either_way (changes_in b tid) (is_crossed tx other) _ _ _ (crossed_serve_holds b tid t other.server.0 (requests_at tx at) reply v) (of (standing_request tx at other))
  where
    of : (o : Option Request) → changes_in b tid (elim o [ None ↦ v | Some request ↦ server_serve other.server.0 t request.op reply v ]) ≡ changes_in b tid v
    of None = refl
    of (Some request) = server_serve_holds b tid t other.server.0 request.op reply apart v

-- a member that isn't crossed gets the change of its request
pub serve_gives : (b : Bool) (t : Tid) (o : Option TransactionValue) (at : RequestNo) (member : Member) (reply : Reply) → member.server.0 ≡ number b → crossed_in o member ≡ false → (v : NodeValue)
    → changes_in b t (serve_node o at t member reply v) ≡ changes_in b t v ++ change_of_request (standing_at o at member) reply
serve_gives b t None at member reply is plain v = sym (append-nil (changes_in b t v))
serve_gives b t (Some tx) at member reply is plain v = rw plain (of (standing_request tx at member))
  where
    of : (o : Option Request) → changes_in b t (elim o [ None ↦ v | Some request ↦ server_serve member.server.0 t request.op reply v ]) ≡ changes_in b t v ++ change_of_request o reply
    of None = sym (append-nil (changes_in b t v))
    of (Some request) = server_serve_gives b t member.server.0 request.op reply is v

-- ---- voting and learning

-- a vote that it has something to commit, or that it can't, leaves all; a read-only one leaves what others have
pub vote_holds : (b : Bool) (tid t : Tid) (count : ℕ) (crossed : Bool) (s : ℕ) (ballot : Vote) (covers : ℕ) (v : NodeValue) → ((ballot ≡ votes.ReadOnly) → s ≡ number b → same_tid t tid ≡ false)
    → changes_in b tid (vote_node count crossed t s ballot covers v) ≡ changes_in b tid v
vote_holds b tid t count crossed s votes.ReadOnly covers v apart = with_table_holds b tid s (λ table. released table t) (λ e x. ap (λ (share : Share). share.changes) (share_released_other x t tid (apart refl e))) v
vote_holds b tid t count true s (votes.Abort reason) covers v apart = refl
vote_holds b tid t count false s (votes.Abort reason) covers v apart = with_table_holds b tid s (λ table. with_vote table t false) (λ e x. share_voted x t tid false) v
vote_holds b tid t count true s votes.Volatile covers v apart = refl
vote_holds b tid t count false s votes.Volatile covers v apart = with_table_holds b tid s (λ table. with_vote table t true) (λ e x. share_voted x t tid true) v
vote_holds true tid t count crossed s votes.Recoverable covers v apart = refl
vote_holds false tid t count crossed s votes.Recoverable covers v apart = refl

doubts_hold : (b : Bool) (tid t : Tid) (s : ℕ) (v : NodeValue) → changes_in b tid (doubts_after t s v) ≡ changes_in b tid v
doubts_hold true tid t s v = either_way (changes_in true tid) (s == 2) _ _ _ refl refl
doubts_hold false tid t s v = either_way (changes_in false tid) (s == 2) _ _ _ refl refl

share_committed_other : (x : TableValue) (t tid : Tid) → same_tid t tid ≡ false → share_of (committed x t) tid ≡ share_of x tid
share_committed_other x t tid h = share_released_other x t tid h

pub learn_holds : (b : Bool) (tid t : Tid) (s : ℕ) (outcome : Outcome) (v : NodeValue) → (s ≡ number b → same_tid t tid ≡ false)
    → changes_in b tid (doubts_after t s (learn_node outcome t s v)) ≡ changes_in b tid v
learn_holds b tid t s outcome v apart = doubts_hold b tid t s (learn_node outcome t s v) ∙ of outcome
  where
    records : (c : Bool) (u : NodeValue) → changes_in c tid (learn_node outcomes.Commit t s u) ≡ changes_in c tid (with_table s (λ table. committed table t) u)
    records true u = refl
    records false u = refl

    of : (outcome : Outcome) → changes_in b tid (learn_node outcome t s v) ≡ changes_in b tid v
    of outcomes.Commit = records b v ∙ with_table_holds b tid s (λ table. committed table t) (λ e x. ap (λ (share : Share). share.changes) (share_committed_other x t tid (apart e))) v
    of outcomes.Abort = with_table_holds b tid s (λ table. released table t) (λ e x. ap (λ (share : Share). share.changes) (share_released_other x t tid (apart e))) v
