-- What all places hold through a restart: what is undecided after it was so before, and is doomed, or so placed as before.
use Rattle.qs_world_runs.proofs.Words.{◌≡◌, ◌⊎◌, inl, inr, ℕ, ◌+◌, ◌<◌, ◌≤◌, ◌==◌, ◌&&◌, ◌||◌, not, Bool, true, false, List, [], ◌∷◌, Some, refl, sym, ap, subst, ◌∙◌, arith, nat_lt, nat_le, if◌then◌else◌, eqb-true, not-true, nat_tests, is_at, find, lookup, is_some, Tid, Entry, Found, BookValue, find_transaction, is_recoverable, TransactionValue, is_empty, is_standing, life_cmp, link_cmp, request_cmp, requests_in, sent_in, sent_on, standing_request, Link, Request, RequestNo, Sent}
use Rattle.qs_world_runs.proofs.Words.{names_transaction, recovery, Recovered, recovered_of, Rise, may_move, moved, risen_host, Opening, World, IsDoomed, doom_stays, AllGoes, IsShown, IsShownWorld, each_begun_shown, home_in_run, move_shown, in_run, Lasts, Every, found_votes, rise_entry, in_runs, nodes_in, WaitsAt, Joined, book_in, AreAwaited, AwaitedAt, AwaitedOf, PlacedOf, AreIssued, IsIssued, IsPlaced, Placed, field_of}
use Rattle.qs_book_machine.specs.Restart.{restart}
use Rattle.qs_book_machine.specs.Transaction.{is_open}
use Rattle.qs_node_step.specs.State.{NodeValue}
use Rattle.qs_world.specs.Moves.{is_in_order}
use Rattle.qs_world_refine.specs.Begun.{has_begun}
use Rattle.qs_world_refine.proofs.ShownMoves.{shown_goes}
use Rattle.qs_world_refine.proofs.SoundParts.{and_both}
use Rattle.qs_world_lawful.proofs.Turning.{stood}
use Rattle.qs_world_runs.proofs.Entries.{each_on}
use Rattle.qs_world_runs.proofs.JoinedParts.{book_on}
use Rattle.qs_world_runs.proofs.PlacedTx.{EachBare, IsBare, PlacedIn, placed_in, placed_of}
use Rattle.qs_world_runs.proofs.PlacesBegin.{begun_down}
use Rattle.qs_world_runs.proofs.RestartPlaced.{Goes, Keeps, KeepsTx, restart_keeps, votes_kinds}
use Rattle.qs_world_runs.proofs.RisenFields.{inc_now, life_on, request_on, up_now}

module _ (o : Opening) (world : World) (j : Joined AwaitedAt o world) (n stamp inc : ℕ) (may : may_move world (Rise n stamp inc) ≡ true) where
  abbrev book : BookValue
  book = book_in o world

  abbrev after : World
  after = moved (Rise n stamp inc) world

  abbrev found : Recovered
  found = recovered_of (world.hosts n).log

  abbrev entry : Entry
  entry = rise_entry world n stamp inc

  abbrev pend : List Found
  pend = found_votes (recovery (world.hosts n).log)

  off : world.channels.up n ≡ false
  off = not-true (world.channels.up n) (and_both (not (world.channels.up n)) _ may).0

  tests : (is_in_order world n stamp ≡ true) × (nat_lt (world.channels.inc n) inc ≡ true)
  tests = and_both (is_in_order world n stamp) (nat_lt (world.channels.inc n) inc) (and_both (not (world.channels.up n)) _ may).1

  n_in : n < world.size
  n_in = in_run world n stamp tests.0

  later : world.channels.inc n < inc
  later = let less : nat_lt (world.channels.inc n) inc ≡ true = tests.1 in grind (arith, nat_tests, less)

  shown : IsShownWorld after
  shown = move_shown world (Rise n stamp inc) may j.shown (each_begun_shown world (Rise n stamp inc) may j.shown)

  lasts : Lasts book
  lasts = in_runs o world.journal j.opens j.lawful

  kinds : Every (λ (f : Found). is_recoverable f.server.0 ≡ true) pend
  kinds = votes_kinds (recovery (world.hosts n).log).prepared ((j.held.nodes n n_in).stopped off).log.kinds

  goes : Goes (field_of after) book (book_in o after)
  goes = subst (λ (b : BookValue). Goes (field_of after) book b) (sym (book_on o world after (entry ∷ []) refl)) (record { none = r.none; goes = r.goes })
    where
      r : Goes (field_of after) book (restart n inc pend (recovery (world.hosts n).log).committed book)
      r = restart_keeps (field_of after) n inc n_in (up_now tid_any world n stamp inc found n_in off later) (inc_now tid_any world n stamp inc found n_in off later) pend (recovery (world.hosts n).log).committed kinds book
        where
          tid_any : Tid
          tid_any = record { home = record { 0 = 0 }; inc = 0; seq = 0 }

  module _ (tid : Tid) (begun : has_begun after tid ≡ true) where
    abbrev k : ℕ
    k = tid.home.0

    its : IsShown tid after
    its = shown.shown tid begun

    low : k < world.size
    low = home_in_run after shown tid begun

    was_so : (later_tx : TransactionValue) → find_transaction (book_in o after) tid ≡ Some later_tx → (tx : TransactionValue) × (find_transaction book tid ≡ Some tx) × KeepsTx (field_of after) tx later_tx
    was_so later_tx is = stood (Keeps (field_of after)) book (book_in o after) goes tid later_tx is

    -- what has begun elsewhere had begun before
    begun_away : (k == n) ≡ false → has_begun world tid ≡ true
    begun_away far = picked (k == n) far begun
      where
        picked : (b : Bool) → b ≡ false
            → (names_transaction tid && (nat_lt k world.size && (nat_lt tid.inc (if (if b then true else world.channels.up k) then (if b then inc else world.channels.inc k) else (if b then inc else world.channels.inc k) + 1)
            || ((tid.inc == (if (if b then true else world.channels.up k) then (if b then inc else world.channels.inc k) else (if b then inc else world.channels.inc k) + 1)) && nat_le tid.seq (if (if b then true else world.channels.up k) then (if b then risen_host stamp inc found (world.hosts n) else world.hosts k).node.manager.begun else 0))))) ≡ true
            → has_begun world tid ≡ true
        picked false is so = so
        picked true is so = absurd (cc is)

    unbegun : has_begun world tid ≡ false → (b : Bool) → (k == n) ≡ b → (later_tx : TransactionValue) → find_transaction (book_in o after) tid ≡ Some later_tx → is_open later_tx.cell ≡ true → ⊥
    unbegun none false far later_tx is undecided = absurd (let was : has_begun world tid ≡ true = begun_away far in cc (none, was))
    unbegun none true near later_tx is undecided =
        let p = was_so later_tx is in
        absurd (let was : has_begun world tid ≡ true = begun_down book world lasts j.held tid p.0 p.1 (p.2.undecided undecided) low (subst (λ (i : ℕ). world.channels.up i ≡ false) (sym (eqb-true k n near)) off) in cc (none, was))

    placed_then : (tx later_tx : TransactionValue) → KeepsTx (field_of after) tx later_tx → Placed tid tx (field_of world) → Placed tid later_tx (field_of after)
    placed_then tx later_tx keeps placed = placed_of tid later_tx (field_of after) issued (ap is_empty keeps.refusals ∙ placed.unrefused) (ap is_empty keeps.crossed ∙ placed.uncrossed)
        (record { numbers = subst (Rattle.qs_book_laws.proofs.Rising.IsRising request_cmp) (sym keeps.requests) in_old.numbers; members = parts.0; each = subst (λ (rs : List (RequestNo × List Request)). Rattle.qs_world_runs.proofs.Entries.Each request_cmp (IsPlaced tid (field_of after)) rs) (sym keeps.requests) requests; bare = parts.1 })
      where
        -- who issued what stands ran, so it is another node
        issued : AreIssued later_tx (field_of after)
        issued at member stands = by (at.link.from.0 == n) refl
          where
            was : IsIssued tx (field_of world) at
            was = placed.issued at member (subst (λ (rs : List (RequestNo × List Request)). is_some (find (is_standing member) (requests_in rs at)) ≡ true) keeps.requests stands)

            given : at.number ≤ sent_in (world.channels.inc at.link.from.0) (sent_on later_tx at.link)
            given = subst (λ (es : List (Link × Sent)). at.number ≤ sent_in (world.channels.inc at.link.from.0) (lookup (is_at (link_cmp at.link)) es)) (sym keeps.sent) was.given

            far : (b : Bool) → b ≡ false → (if b then inc else world.channels.inc at.link.from.0) ≡ world.channels.inc at.link.from.0
            far b is = rw is refl

            far_up : (b : Bool) → b ≡ false → (if b then true else world.channels.up at.link.from.0) ≡ world.channels.up at.link.from.0
            far_up b is = rw is refl

            by : (b : Bool) → (at.link.from.0 == n) ≡ b → IsIssued later_tx (field_of after) at
            by true same = absurd (let down : world.channels.up at.link.from.0 ≡ false = subst (λ (k : ℕ). world.channels.up k ≡ false) (sym (eqb-true at.link.from.0 n same)) off in let up = was.up in cc (up, down))
            by false apart = record {
              up = far_up (at.link.from.0 == n) apart ∙ was.up;
              given = subst (λ (i : ℕ). at.number ≤ sent_in i (sent_on later_tx at.link)) (sym (far (at.link.from.0 == n) apart)) given;
            }

        in_old : PlacedIn tid (field_of world) tx.requests tx.parts
        in_old = placed_in tid tx (field_of world) placed

        requests : Rattle.qs_world_runs.proofs.Entries.Each request_cmp (IsPlaced tid (field_of after)) tx.requests
        requests = each_on request_cmp (IsPlaced tid (field_of world)) (IsPlaced tid (field_of after)) (λ at rs. request_on tid world n stamp inc found n_in off later at rs) tx.requests in_old.each

        bare : EachBare (field_of after) tx.parts
        bare = each_on life_cmp (IsBare (field_of world)) (IsBare (field_of after)) (λ l part. life_on tid world n stamp inc found n_in off later l part) tx.parts in_old.bare

        parts : Rattle.qs_book_laws.proofs.Rising.IsRising life_cmp later_tx.parts × EachBare (field_of after) later_tx.parts
        parts = keeps.parts in_old.members bare

    awaited_then : (tx later_tx : TransactionValue) → KeepsTx (field_of after) tx later_tx → Placed tid tx (field_of world) → AreAwaited tid tx (nodes_in world) → AreAwaited tid later_tx (nodes_in after)
    awaited_then tx later_tx keeps placed await i at member from_i away stands = by (i == n) refl
      where
        stood_then : is_some (standing_request tx at member) ≡ true
        stood_then = subst (λ (rs : List (RequestNo × List Request)). is_some (find (is_standing member) (requests_in rs at)) ≡ true) keeps.requests stands

        other : (b : Bool) → b ≡ false → (if b then risen_host stamp inc found (world.hosts n) else world.hosts i).node ≡ (world.hosts i).node
        other b far = rw far refl

        -- who issued what stands ran, so it is another node
        by : (b : Bool) → (i == n) ≡ b → WaitsAt tid member at.number (nodes_in after i)
        by true same = absurd (let down : world.channels.up at.link.from.0 ≡ false = subst (λ (k : ℕ). world.channels.up k ≡ false) (sym (from_i ∙ eqb-true i n same)) off in let up = (placed.issued at member stood_then).up in cc (up, down))
        by false far = subst (λ (node : NodeValue). WaitsAt tid member at.number node) (sym (other (i == n) far)) (await i at member from_i away stood_then)

    pub rise_places : AwaitedOf tid o after
    rise_places = by (has_begun world tid) refl
      where
        by : (b : Bool) → has_begun world tid ≡ b → AwaitedOf tid o after
        by false none = record {
          places = record { machine = its.machine; shows = its.shows; placed = λ later_tx is undecided. absurd (unbegun none (k == n) refl later_tx is undecided) };
          awaited = λ later_tx is undecided. absurd (unbegun none (k == n) refl later_tx is undecided);
        }
        by true was = record {
          places = record { machine = on.next; shows = on.shown; placed = λ later_tx is undecided. of later_tx is undecided (was_so later_tx is) };
          awaited = λ later_tx is undecided. awaits later_tx is undecided (was_so later_tx is);
        }
          where
            p : PlacedOf tid o world
            p = (j.places tid was).places

            on : AllGoes tid after p.machine
            on = shown_goes tid world (Rise n stamp inc) p.machine may j.shown was p.shows

            of : (later_tx : TransactionValue) → find_transaction (book_in o after) tid ≡ Some later_tx → is_open later_tx.cell ≡ true → (tx : TransactionValue) × (find_transaction book tid ≡ Some tx) × KeepsTx (field_of after) tx later_tx
                → IsDoomed on.next ⊎ Placed tid later_tx (field_of after)
            of later_tx is undecided (tx, had, keeps) = at (p.placed tx had (keeps.undecided undecided))
              where
                at : IsDoomed p.machine ⊎ Placed tid tx (field_of world) → IsDoomed on.next ⊎ Placed tid later_tx (field_of after)
                at (inl doomed) = inl (doom_stays p.machine on.next doomed on.leads)
                at (inr placed) = inr (placed_then tx later_tx keeps placed)

            awaits : (later_tx : TransactionValue) → find_transaction (book_in o after) tid ≡ Some later_tx → is_open later_tx.cell ≡ true → (tx : TransactionValue) × (find_transaction book tid ≡ Some tx) × KeepsTx (field_of after) tx later_tx
                → IsDoomed on.next ⊎ AreAwaited tid later_tx (nodes_in after)
            awaits later_tx is undecided (tx, had, keeps) = at (p.placed tx had (keeps.undecided undecided)) ((j.places tid was).awaited tx had (keeps.undecided undecided))
              where
                at : IsDoomed p.machine ⊎ Placed tid tx (field_of world) → IsDoomed p.machine ⊎ AreAwaited tid tx (nodes_in world) → IsDoomed on.next ⊎ AreAwaited tid later_tx (nodes_in after)
                at (inl doomed) await = inl (doom_stays p.machine on.next doomed on.leads)
                at (inr placed) (inl doomed) = inl (doom_stays p.machine on.next doomed on.leads)
                at (inr placed) (inr await) = inr (awaited_then tx later_tx keeps placed await)
