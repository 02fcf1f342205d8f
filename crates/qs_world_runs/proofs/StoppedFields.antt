-- A free node stops: its lives agree, and requests stay placed where none was on its way to it, nor kept back by it, or each of these dooms.
use Rattle.qs_world_runs.proofs.Words.{◌≡◌, ◌⊎◌, inl, inr, ℕ, ◌+◌, ◌-◌, ◌<◌, ◌≤◌, ◌==◌, ◌&&◌, Bool, true, false, List, [], ◌∷◌, length, map, Some, None, zero, suc, refl, sym, ap, subst, ◌∙◌, arith, if◌then◌else◌, le_refl, eqb-true, nat_tests, filter, ServerNo, Tid, queue_at, Delivery, CrashCause, BookValue, find_transaction, TransactionValue, agrees, standing_request, Life, Part, Request, RequestNo, Record, stopped, Parcel, World, Open, Committed, Aborted, IsDoomed, has_request, link}
use Rattle.qs_world_runs.proofs.Words.{waiting_link, all_said, IsShownWorld, none_waits, steady, node_stopped, pending, pending_from, still_held, AreIssued, Field, message_of, sent_between, kept_between, field_of, standing, waiting, asked, IsIssued, IsPlaced, EachPlaced, IsLife, IsPresent, EachLives, Placed, le_le, zero_least}
use Rattle.qs_book_machine.specs.Transaction.{is_open}
use Rattle.qs_node_step.specs.State.{NodeValue}
use Rattle.qs_world_agree.specs.World as machine
use Rattle.qs_world_agree.specs.World.{Outcome}
use Rattle.qs_world_lawful.specs.Face.{is_numbered}
use Rattle.qs_world_lawful.specs.Holds.{Holds}
use Rattle.qs_world_runs.specs.PlacedLaws.{IsFree}
use Rattle.qs_world_runs.specs.PlacesApart.{NoneOf}
use Rattle.qs_world_runs.proofs.CommitsPlaced.{NoneIn, none_in, none_then}
use Rattle.qs_world_runs.proofs.FreeLives.{free_agrees}
use Rattle.qs_world_runs.proofs.Quiets.{none_counted}

module _ (tid : Tid) (book : BookValue) (tx : TransactionValue) (world : World) (n stamp : ℕ) (cause : CrashCause) (log : List Record) (v : machine.World)
    (is : IsShownWorld world) (n_in : n < world.size) (on : world.channels.up n ≡ true) (found : find_transaction book tid ≡ Some tx) (undecided : is_open tx.cell ≡ true) (next : ℕ) (h : Holds next book (world.hosts n).node)
    (free : IsFree tid (world.hosts n).node)
    -- what was on its way to it, and what it kept back
    (left : (k i : ℕ) → k < world.size → has_request (all_said tid (map message_of (pending world.channels k n i (world.channels.inc n)))) ≡ true → IsDoomed v)
    (kept_back : (m : ℕ) → m < world.size → world.channels.peer n m ≡ 0 → has_request (all_said tid (map message_of (world.channels.waits n m))) ≡ true → IsDoomed v)
    -- and none that it issued stands
    (none_of_it : NoneOf n tx) where
  abbrev after : World
  after = stopped world n stamp cause log

  abbrev old : Field
  old = field_of world

  abbrev new : Field
  new = field_of after

  node_is : (k : ℕ) → new.node k ≡ old.node k
  node_is k = node_stopped world n stamp cause log k

  down : new.up n ≡ false
  down = picked (n == n) (grind (arith, nat_tests))
    where
      picked : (b : Bool) → b ≡ true → (if b then false else world.channels.up n) ≡ false
      picked b so = rw so refl

  up_is : (k : ℕ) → (k == n) ≡ false → new.up k ≡ old.up k
  up_is k apart = picked (k == n) apart
    where
      picked : (b : Bool) → b ≡ false → (if b then false else world.channels.up k) ≡ world.channels.up k
      picked b so = rw so refl

  -- ---- nothing is on its way to it

  abbrev NothingIn : List Parcel → Type 0
  NothingIn ps = (server : ServerNo) (number : ℕ) → NoneIn tid server number ps

  none_of : (ps : List Parcel) → (has_request (all_said tid (map message_of ps)) ≡ true → IsDoomed v) → IsDoomed v ⊎ NothingIn ps
  none_of ps dooms = by (has_request (all_said tid (map message_of ps))) refl
    where
      by : (b : Bool) → has_request (all_said tid (map message_of ps)) ≡ b → IsDoomed v ⊎ NothingIn ps
      by true has = inl (dooms has)
      by false none = inr (λ server number. none_in tid server number ps none)

  none_from : (at : ℕ → List Parcel) → ((i : ℕ) → has_request (all_said tid (map message_of (at i))) ≡ true → IsDoomed v) → (i more : ℕ) → IsDoomed v ⊎ NothingIn (pending_from at i more)
  none_from at dooms i zero = inr (λ server number. refl)
  none_from at dooms i (suc more) = by (none_of (at i) (dooms i)) (none_from at dooms (suc i) more)
    where
      by : IsDoomed v ⊎ NothingIn (at i) → IsDoomed v ⊎ NothingIn (pending_from at (suc i) more) → IsDoomed v ⊎ NothingIn (pending_from at i (suc more))
      by (inl doomed) rest = inl doomed
      by (inr none) (inl doomed) = inl doomed
      by (inr none) (inr rest) = inr (λ server number. none_then tid server number (at i) (pending_from at (suc i) more) (none server number) (rest server number))

  none_sent : (k : ℕ) → k < world.size → IsDoomed v ⊎ NothingIn (sent_between world k n)
  none_sent k k_in = none_from (λ i. pending world.channels k n i (world.channels.inc n)) (λ i. left k i k_in) (world.channels.peer n k) ((world.channels.inc k + 1) - world.channels.peer n k)

  -- ---- what is kept back stays, or it dooms

  abbrev StaysKept : ℕ → ℕ → Type 0
  StaysKept k m = (server : ServerNo) (number : ℕ) → asked tid server number (old.kept k m) ≤ asked tid server number (new.kept k m)

  keeps : (k m : ℕ) → m < world.size → IsDoomed v ⊎ StaysKept k m
  keeps k m m_in = by (k == n) refl
    where
      dooms : (b c : Bool) → (world.channels.peer n m == 0) ≡ c → has_request (all_said tid (map message_of (if b && c then world.channels.waits n m else []))) ≡ true → IsDoomed v
      dooms true true unknown has = kept_back m m_in (eqb-true (world.channels.peer n m) 0 unknown) has
      dooms true false known has = absurd (cc has)
      dooms false c known has = absurd (cc has)

      lost : IsDoomed v ⊎ NothingIn (kept_between world (world.channels.up n) n m) → IsDoomed v ⊎ StaysKept n m
      lost (inl doomed) = inl doomed
      lost (inr none) = inr (λ server number. zero_least (asked tid server number (old.kept n m)) (asked tid server number (new.kept n m)) (none server number))

      by : (b : Bool) → (k == n) ≡ b → IsDoomed v ⊎ StaysKept k m
      by true same = subst (λ (j : ℕ). IsDoomed v ⊎ StaysKept j m) (sym (eqb-true k n same))
          (lost (none_of (kept_between world (world.channels.up n) n m) (dooms (world.channels.up n) (world.channels.peer n m == 0) refl)))
      by false apart = inr (λ server number. subst (λ (b : Bool). asked tid server number (old.kept k m) ≤ asked tid server number (map message_of (kept_between world b k m))) (sym (up_is k apart)) (le_refl (asked tid server number (old.kept k m))))

  -- ---- requests

  module _ (at : RequestNo) (requests : List Request) (placed : IsPlaced tid old at requests) where
    abbrev from : ℕ
    from = at.link.from.0

    abbrev to : ℕ
    to = at.link.to.0

    nothing_waits : to ≡ n → (server : ServerNo) → waiting tid old at server ≡ 0
    nothing_waits same server = ap (λ (ds : List Delivery). length (filter (is_numbered at) ds))
        (none_counted tid (queue_at (old.node to).queues server).waiting (subst (λ (k : ℕ). Rattle.qs_ipc.specs.Queue.count_of tid (queue_at (world.hosts k).node.queues server).waiting ≡ 0) (sym same) (none_waits tid (world.hosts n).node.queues server free.idle)))

    -- to the node that stops: what stands is what is kept back
    at_it : to ≡ n → NothingIn (sent_between world from n) → StaysKept from to → IsPlaced tid new at requests
    at_it same none stays = record {
      from_in = placed.from_in;
      to_in = placed.to_in;
      there = placed.there;
      runs = λ up. absurd (let off : new.up to ≡ false = subst (λ (k : ℕ). new.up k ≡ false) (sym same) down in cc (up, off));
      stopped = λ off server. fewer (standing at server requests) (waiting tid old at server) (asked tid server at.number (old.sent from to)) (asked tid server at.number (old.kept from to)) (asked tid server at.number (new.kept from to))
          (placed.runs (subst (λ (k : ℕ). world.channels.up k ≡ true) (sym same) on) server) (nothing_waits same server)
          (subst (λ (k : ℕ). asked tid server at.number (old.sent from k) ≡ 0) (sym same) (none server at.number)) (stays server at.number);
    }
      where
        fewer : (a b c d e : ℕ) → a ≤ b + (c + d) → b ≡ 0 → c ≡ 0 → d ≤ e → a ≤ e
        fewer a b c d e less p q r = omega (arith, less, p, q, r)

    -- to another
    beside : (to == n) ≡ false → StaysKept from to → IsPlaced tid new at requests
    beside apart stays = record {
      from_in = placed.from_in;
      to_in = placed.to_in;
      there = placed.there;
      runs = λ up server. more (standing at server requests) (waiting tid old at server) (waiting tid new at server) (asked tid server at.number (old.sent from to)) (asked tid server at.number (old.kept from to)) (asked tid server at.number (new.kept from to))
          (placed.runs (sym (up_is to apart) ∙ up) server) (ap (λ (k : NodeValue). length (filter (is_numbered at) (Rattle.qs_world_lawful.specs.Face.waiting_at k tid server))) (node_is to)) (stays server at.number);
      stopped = λ off server. le_le (standing at server requests) (asked tid server at.number (old.kept from to)) (asked tid server at.number (new.kept from to)) (placed.stopped (sym (up_is to apart) ∙ off) server) (stays server at.number);
    }
      where
        more : (a b c d e f : ℕ) → a ≤ b + (d + e) → c ≡ b → e ≤ f → a ≤ c + (d + f)
        more a b c d e f less p r = omega (arith, less, p, r)

    one : IsDoomed v ⊎ IsPlaced tid new at requests
    one = by (to == n) refl (keeps from to placed.to_in)
      where
        sent : to ≡ n → StaysKept from to → IsDoomed v ⊎ NothingIn (sent_between world from n) → IsDoomed v ⊎ IsPlaced tid new at requests
        sent same stays (inl doomed) = inl doomed
        sent same stays (inr none) = inr (at_it same none stays)

        by : (b : Bool) → (to == n) ≡ b → IsDoomed v ⊎ StaysKept from to → IsDoomed v ⊎ IsPlaced tid new at requests
        by b where_to (inl doomed) = inl doomed
        by true same (inr stays) = sent (eqb-true to n same) stays (none_sent from placed.from_in)
        by false apart (inr stays) = inr (beside apart stays)

  each : (entries : List (RequestNo × List Request)) → EachPlaced tid old entries → IsDoomed v ⊎ EachPlaced tid new entries
  each [] all = inr tt
  each (entry ∷ entries) all = both (one entry.0 entry.1 all.0) (each entries all.1)
    where
      both : IsDoomed v ⊎ IsPlaced tid new entry.0 entry.1 → IsDoomed v ⊎ EachPlaced tid new entries → IsDoomed v ⊎ EachPlaced tid new (entry ∷ entries)
      both (inl doomed) rest = inl doomed
      both (inr first) (inl doomed) = inl doomed
      both (inr first) (inr rest) = inr (first, rest)

  -- ---- who issued them

  issued : AreIssued tx old → AreIssued tx new
  issued are at member stands = by (at.link.from.0 == n) refl
    where
      by : (b : Bool) → (at.link.from.0 == n) ≡ b → IsIssued tx new at
      by true same = absurd (let none : standing_request tx at member ≡ None = none_of_it at member (eqb-true at.link.from.0 n same) in cc (stands, none))
      by false apart = let i : IsIssued tx old at = are at member stands in record { up = up_is at.link.from.0 apart ∙ i.up; given = i.given }

  -- ---- lives

  life : (l : Life) (part : Part) → IsLife tx old l part → IsLife tx new l part
  life l part its = record { kept = its.kept; member = its.member; cast = its.cast; made = its.made; lives = by its.lives }
    where
      over : (b : Bool) → (l.member.node.0 == n) ≡ b → IsPresent old l → IsPresent new l ⊎ (agrees (l, part) ≡ true)
      over true same present = inr (free_agrees book tid tx old (world.hosts n).node l part found undecided (still_held next book (world.hosts n).node h) free its
          (ap (λ (k : ℕ). Rattle.qs_world_refine.specs.Links.node_no k) (eqb-true l.member.node.0 n same) ∙ sym ((steady world is).seated.node n n_in))
          (present.now ∙ (ap world.channels.inc (eqb-true l.member.node.0 n same) ∙ sym ((steady world is).seated.inc n n_in))))
      over false apart present = inl (record { in_run = present.in_run; up = up_is l.member.node.0 apart ∙ present.up; now = present.now })

      by : IsPresent old l ⊎ (agrees (l, part) ≡ true) → IsPresent new l ⊎ (agrees (l, part) ≡ true)
      by (inl present) = over (l.member.node.0 == n) refl present
      by (inr agreed) = inr agreed

  lives : (entries : List (Life × Part)) → EachLives tx old entries → EachLives tx new entries
  lives [] all = tt
  lives (entry ∷ entries) all = (life entry.0 entry.1 all.0, lives entries all.1)

  pub placed_then : Placed tid tx old → IsDoomed v ⊎ Placed tid tx new
  placed_then placed = by (each tx.requests placed.requests)
    where
      by : IsDoomed v ⊎ EachPlaced tid new tx.requests → IsDoomed v ⊎ Placed tid tx new
      by (inl doomed) = inl doomed
      by (inr requests) = inr (record { numbers = placed.numbers; members = placed.members; requests = requests; issued = issued placed.issued; lives = lives tx.parts placed.lives; unrefused = placed.unrefused; uncrossed = placed.uncrossed })
