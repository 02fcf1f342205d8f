-- At a node that is not engaged no request of its own stands: to a server of its own it would wait there, and nothing does; to another node, at its issuer, which would be engaged.
use Rattle.qs_world_runs.proofs.Words.{◌≡◌, ℕ, ◌+◌, ◌-◌, ◌<◌, ◌≤◌, ◌==◌, ◌&&◌, not, Bool, true, false, List, [], ◌∷◌, length, map, Option, Some, None, zero, suc, refl, sym, ap, subst, ◌∙◌, arith, if◌then◌else◌, eqb-true, nat_tests, is_at, filter, find, list_all, lookup, drop, is_some, unwrap_or, same_member-true, same_member, Member, ServerNo, Tid, Channels, queue_at, Delivery, request_total, BookValue, find_transaction, TransactionValue, is_standing, request_cmp, standing_request, Request}
use Rattle.qs_world_runs.proofs.Words.{RequestNo, is_undecided, Participant, same_node, Opening, Parcel, World, began_here, face_at, is_engaged, is_sound, same_flag, where_so, none_waits, steady, known_sound, PartSound, at_server, Every, HoldsChannels, IsParcel, pending, pending_from, still_held, Joined, book_in, Field, IsPlaced, Placed, asked, field_of, goes_there, kept_between, message_of, sent_between, standing, waiting, WaitsAt, AwaitsOwn, LeavesNone, and_last, suc_not_zero, and_first}
use Rattle.qs_ipc.specs.Ipc as ipc
use Rattle.qs_book_machine.specs.Transaction.{is_open}
use Rattle.qs_node_step.specs.State.{NodeValue}
use Rattle.qs_tm.specs.Manager as tm
use Rattle.qs_world_refine.specs.NodeFaces.{unknown}
use Rattle.qs_world_refine.proofs.CommitIdles.{off_idle}
use Rattle.qs_world_refine.proofs.SoundParts.{and_both}
use Rattle.qs_world_lawful.specs.Face.{is_numbered}
use Rattle.qs_world_lawful.specs.Holds.{Holds}
use Rattle.qs_world_runs.proofs.CommitsPlaced.{idle_free, none_decided}
use Rattle.qs_world_runs.proofs.Entries.{each_at}
use Rattle.qs_world_runs.proofs.PlacedTx.{placed_each, request_equal, request_self}
use Rattle.qs_world_runs.proofs.Quiets.{none_counted}

-- ---- nothing is on its way from a node to itself

module _ (book : BookValue) (size : ℕ) (channels : Channels Parcel) (n : ℕ) (holds : HoldsChannels book size channels) where
  self : (n == n) ≡ true
  self = grind (arith, nat_tests)

  none_of : (ps : List Parcel) → Every (IsParcel book size n n) ps → ps ≡ []
  none_of [] all = refl
  none_of (p ∷ ps) all = absurd (let apart : (n == n) ≡ false = all.0.between.other in cc (self, apart))

  none_behind : (k : ℕ) (ps : List Parcel) → ps ≡ [] → drop k ps ≡ []
  none_behind zero ps none = none
  none_behind (suc k) ps none = rw none refl

  none_pending : (i j : ℕ) → pending channels n n i j ≡ []
  none_pending i j = none_behind (length (channels.handed n n i j)) (channels.posted n n i j) (none_of (channels.posted n n i j) (holds.posted n n i j))

  none_from : (j i more : ℕ) → pending_from (λ k. pending channels n n k j) i more ≡ []
  none_from j i zero = refl
  none_from j i (suc more) = rw (none_pending i j, none_from j (suc i) more) refl

  pub none_kept : channels.waits n n ≡ []
  none_kept = none_of (channels.waits n n) (holds.waits n n)

-- ---- what stands is counted at its server

stands_counted : (at : RequestNo) (member : Member) (rs : List Request) → list_all (goes_there at) rs ≡ true → is_some (find (is_standing member) rs) ≡ true → standing at member.server rs ≡ 0 → ⊥
stands_counted at member [] there stands none = cc stands
stands_counted at member (r ∷ rs) there stands none = by (is_standing member r) refl (goes_there at r) refl there stands none (stands_counted at member rs)
  where
    itself : (a b c : ℕ) → a ≡ b → ((a == b) && (c == c)) ≡ true
    itself a b c e = grind (arith, nat_tests, e)

    less : (b : Bool) (xs : List Request) → length (if b then r ∷ xs else xs) ≡ 0 → length xs ≡ 0
    less true xs e = absurd (suc_not_zero (length xs) e)
    less false xs e = e

    by : (b : Bool) → is_standing member r ≡ b → (c : Bool) → goes_there at r ≡ c → (goes_there at r && list_all (goes_there at) rs) ≡ true → is_some (find (is_standing member) (r ∷ rs)) ≡ true → standing at member.server (r ∷ rs) ≡ 0
        → (list_all (goes_there at) rs ≡ true → is_some (find (is_standing member) rs) ≡ true → standing at member.server rs ≡ 0 → ⊥) → ⊥
    by b is false so all stands none more = cc (rw so at all)
    by true is true so all stands none more = suc_not_zero (length (filter (is_standing (at_server at.link.to member.server)) rs)) (rw counted at none)
      where
        own : r.member ≡ member
        own = same_member-true r.member member (and_first (same_member r.member member) (not r.served) is)

        counted : is_standing (at_server at.link.to member.server) r ≡ true
        counted = ap (λ (b : Bool). b && not r.served) (ap (λ (m : Member). same_member m (at_server at.link.to member.server)) own ∙ itself member.node.0 at.link.to.0 member.server.0 (ap (λ (m : Member). m.node.0) (sym own) ∙ eqb-true r.member.node.0 at.link.to.0 so)) ∙ and_last (same_member r.member member) (not r.served) is
    by false is true so all stands none more = more (rw so at all) (rw is at stands) (less (is_standing (at_server at.link.to member.server) r) (filter (is_standing (at_server at.link.to member.server)) rs) none)

module _ (P : Opening → World → Type 0) (o : Opening) (world : World) (n : ℕ) (tid : Tid) (tx : TransactionValue) (j : Joined P o world) (n_in : n < world.size) (on : world.channels.up n ≡ true) (next : ℕ) (h : Holds next (book_in o world) (world.hosts n).node)
    (found : find_transaction (book_in o world) tid ≡ Some tx) (undecided : is_open tx.cell ≡ true) (placed : Placed tid tx (field_of world)) (off : (face_at (world.hosts n).node tid).on ≡ false) where
  idle : ipc.waits tid (world.hosts n).node.queues ≡ false
  idle = (idle_free tid (world.hosts n).node (off_idle tid (world.hosts n).node ((steady world j.shown).sound n n_in).node off (none_decided (book_in o world) tid tx (world.hosts n).node (still_held next (book_in o world) (world.hosts n).node h) found undecided))).idle

  abbrev field : Field
  field = field_of world

  no_requests : (server : ServerNo) (number : ℕ) (ps : List Parcel) → ps ≡ [] → asked tid server number (map message_of ps) ≡ 0
  no_requests server number ps none = rw none refl

  kept_if : (b : Bool) (ps : List Parcel) → ps ≡ [] → (if b then ps else []) ≡ []
  kept_if true ps none = none
  kept_if false ps none = refl

  -- of a request from the node to a server of its own
  module _ (number : ℕ) where
    abbrev own : RequestNo
    own = record { link = record { from = record { 0 = n }; to = record { 0 = n } }; number = number }

    none_waits_here : (server : ServerNo) → waiting tid field own server ≡ 0
    none_waits_here server = ap (λ (ds : List Delivery). length (filter (is_numbered own) ds)) (none_counted tid (queue_at (world.hosts n).node.queues server).waiting (none_waits tid (world.hosts n).node.queues server idle))

    none_stands : (rs : List Request) (member : Member) → IsPlaced tid field own rs → find (is_standing member) rs ≡ None
    none_stands rs member p = by (find (is_standing member) rs) refl
      where
        zero_is : (a b c d : ℕ) → a ≤ b + (c + d) → b ≡ 0 → c ≡ 0 → d ≡ 0 → a ≡ 0
        zero_is a b c d less x y z = omega (arith, less, x, y, z)

        none : standing own member.server rs ≡ 0
        none = zero_is _ _ _ _ (p.runs on member.server) (none_waits_here member.server)
            (no_requests member.server number (sent_between world n n) (none_from (book_in o world) world.size world.channels n j.channels (world.channels.inc n) (world.channels.peer n n) ((world.channels.inc n + 1) - world.channels.peer n n)))
            (no_requests member.server number (kept_between world (world.channels.up n) n n) (kept_if (world.channels.up n && (world.channels.peer n n == 0)) (world.channels.waits n n) (none_kept (book_in o world) world.size world.channels n j.channels)))

        by : (f : Option Request) → find (is_standing member) rs ≡ f → find (is_standing member) rs ≡ None
        by None is = is
        by (Some r) is = absurd (stands_counted own member rs p.there (rw is refl) none)

    none_own : (member : Member) → standing_request tx own member ≡ None
    none_own member = by (lookup (is_at (request_cmp own)) tx.requests) refl
      where
        by : (f : Option (List Request)) → lookup (is_at (request_cmp own)) tx.requests ≡ f → find (is_standing member) (unwrap_or (lookup (is_at (request_cmp own)) tx.requests) []) ≡ None
        by None is = rw is refl
        by (Some rs) is = subst (λ (f : Option (List Request)). find (is_standing member) (unwrap_or f []) ≡ None) (sym is) (none_stands rs member (each_at request_cmp request_total request_equal request_self (IsPlaced tid field) own tx.requests rs is (placed_each tid field tx.requests placed.requests)))

  none_here : (at : RequestNo) (member : Member) → at.link.from.0 ≡ n → at.link.to.0 ≡ n → standing_request tx at member ≡ None
  none_here at member from_n to_n = subst (λ (k : RequestNo). standing_request tx k member ≡ None) (ap (λ (a : ℕ). no_as a n) (sym from_n) ∙ ap (λ (b : ℕ). no_as at.link.from.0 b) (sym to_n)) (none_own at.number member)
    where
      no_as : ℕ → ℕ → RequestNo
      no_as a b = record { link = record { from = record { 0 = a }; to = record { 0 = b } }; number = at.number }

-- ---- a node where one waits is engaged

engaged_on : (tid : Tid) (node : NodeValue) → is_sound node ≡ true → (part : Participant) → tm.part_of tid node.manager ≡ Some part → part.outcome ≡ None → is_engaged part ≡ true → (face_at node tid).on ≡ false → ⊥
engaged_on tid node sound part known undecided engaged off = by part.engage.home refl
  where
    s : PartSound node tid part
    s = known_sound tid node part known sound

    at : (if began_here node tid then not (is_some part.outcome) else is_some part.engage.superior) ≡ false
    at = subst (λ (p : Participant). (if began_here node tid then not (is_some p.outcome) else is_some p.engage.superior) ≡ false) (ap (λ (o : Option Participant). unwrap_or o (unknown node tid)) known) off

    so_then : (a b : Bool) → where_so a b ≡ true → a ≡ true → b ≡ true
    so_then true b is so = is
    so_then false b is so = absurd (cc so)

    same : (h b : Bool) → same_flag h b ≡ true → b ≡ h
    same true b is = is
    same false true is = absurd (cc is)
    same false false is = refl

    at_home : same_node tid.home node.setting.node ≡ part.engage.home
    at_home = same part.engage.home (same_node tid.home node.setting.node) s.homed

    by : (b : Bool) → part.engage.home ≡ b → ⊥
    by true is =
        let began : began_here node tid ≡ true = rw (at_home, is) ((and_both (tid.inc == node.setting.inc) _ (so_then (part.engage.home && is_undecided part) _ s.began (rw (is, undecided) refl))).0) in
        let on : (if began_here node tid then not (is_some part.outcome) else is_some part.engage.superior) ≡ true = rw (began, undecided) refl in
        cc (on, at)
    by false is =
        let away : began_here node tid ≡ false = rw (at_home, is) refl in
        let superior : is_some part.engage.superior ≡ true = rw is at engaged in
        let on : (if began_here node tid then not (is_some part.outcome) else is_some part.engage.superior) ≡ true = rw (away, superior) refl in
        cc (on, at)

pub leaves_none : (P : Opening → World → Type 0) (o : Opening) (world : World) (n : ℕ) (tid : Tid) (tx : TransactionValue) → Joined P o world → n < world.size → world.channels.up n ≡ true → (next : ℕ) → Holds next (book_in o world) (world.hosts n).node
    → find_transaction (book_in o world) tid ≡ Some tx → is_open tx.cell ≡ true → AwaitsOwn n tid tx (world.hosts n).node → LeavesNone tid world n tx
leaves_none P o world n tid tx j n_in on next h found undecided await placed off at member from_n = by (at.link.to.0 == n) refl
  where
    of : (r : Option Request) → standing_request tx at member ≡ r → (at.link.to.0 == n) ≡ false → standing_request tx at member ≡ None
    of None none apart = none
    of (Some r) stands apart = absurd (let w : WaitsAt tid member at.number (world.hosts n).node = await at member from_n apart (rw stands refl) in
        engaged_on tid (world.hosts n).node ((steady world j.shown).sound n n_in).node w.part w.known w.undecided w.engaged off)

    by : (b : Bool) → (at.link.to.0 == n) ≡ b → standing_request tx at member ≡ None
    by true to_n = none_here P o world n tid tx j n_in on next h found undecided placed off at member from_n (eqb-true at.link.to.0 n to_n)
    by false apart = of (standing_request tx at member) refl apart
