-- What a node had issued to others before a step, and stands still after it, waits on: its reply did not come, nor its outcome, and its node decided nothing.
use Rattle.qs_world_runs.proofs.Words.{◌≡◌, ◌⊎◌, inl, inr, ℕ, ◌+◌, ◌≤◌, ◌==◌, ◌&&◌, not, Bool, true, false, List, [], ◌∷◌, Option, Some, None, is_some, refl, sym, ap, subst, ◌∙◌, arith, eqb-true, and_parts, nat_tests, is_at, find, list_all, lookup, unwrap_or, same_member-true, same_member, Member, NodeNo, Tid, same_node, Act, Decided, Inv, ran, request_total, BookValue, cell_of_transaction, find_transaction, book_after, effect, TransactionValue, cell_of, is_outcome, is_standing, request_cmp}
use Rattle.qs_world_runs.proofs.Words.{standing_request, Cell, Request, RequestNo, Reply, kept_outcome, work_on, after_step, effects_of, Event, Source, Step, moved, step_with, entries_of, entry_of, Opening, World, IsDoomed, IsTidyNode, StepMay, step_may, begun_tidy, c, first_work, HoldsStill, IsTrueEvent, way_between, same_or_apart, Begins, Turning, by_entry, coming_first, MakesStep, nodes_in, IsWaiting, WaitsAt, AreAwaited, AwaitsOwn, HoldsAwaited, Joined, book_in, entries_in, PlacesAt}
use Rattle.qs_world_runs.proofs.Words.{HoldsPlaced, IsPlaced, Placed, field_of, goes_there, none_some, and_first, some_same}
use Rattle.qs_base.specs.declared.identifiers.Outcome.{Outcome}
use Rattle.qs_base.specs.declared.identifiers.Outcome.TheVariants as outcomes
use Rattle.qs_book_machine.specs.Lawful.{IsLawful}
use Rattle.qs_book_machine.specs.Transaction.{is_open}
use Rattle.qs_book_machine.specs.declared.transaction.Cell.TheVariants as cells
use Rattle.qs_packet.specs.declared.message.Message.TheVariants as messages
use Rattle.qs_node_step.specs.State.{NodeValue}
use Rattle.qs_node_step.specs.declared.event.Event.TheVariants as events
use Rattle.qs_tm.specs.Manager as tm
use Rattle.qs_world_agree.specs.World as machine
use Rattle.qs_world_lawful.specs.Holds.{HasBegun, HasEnded}
use Rattle.qs_world_lawful.proofs.Apart.{Apart}
use Rattle.qs_world_runs.specs.Answering.{IsFree}
use Rattle.qs_world_runs.specs.Awaited.{ComesSo, TakesIt}
use Rattle.qs_world_runs.specs.Awaiting.{AwaitsFresh, EachFreshAwaited, EachOwnAwaited, EachReplyTrue}
use Rattle.qs_world_runs.proofs.AwaitedSteps.{steps_wait_on}
use Rattle.qs_world_runs.proofs.ClientsGo.{comes_free}
use Rattle.qs_world_runs.proofs.Entries.{each_at}
use Rattle.qs_world_runs.proofs.JoinedAs.{joined_as}
use Rattle.qs_world_runs.proofs.JoinedHeld.{true_event}
use Rattle.qs_world_runs.proofs.JoinedParts.{book_on}
use Rattle.qs_world_runs.proofs.JoinedSteps.{step_holds}
use Rattle.qs_world_runs.proofs.PlacedTx.{placed_each, request_equal, request_self}
use Rattle.qs_world_runs.proofs.PlacesJoined.{amid}
use Rattle.qs_world_runs.proofs.StepUnanimous.{steps_stay_unanimous}
use Rattle.qs_world_runs.proofs.WholeSteps.{whole_steps}
use Rattle.qs_base_lemmas.proofs.Tests.{lt_not_equal}

-- ---- what is undecided after a step was so before

module _ (n stamp : ℕ) (tid : Tid) where
  was_open : (list : List Act) (book : BookValue) → Inv book → IsLawful book (entries_of n stamp list) → (was tx : TransactionValue) → find_transaction book tid ≡ Some was → find_transaction (book_after book (entries_of n stamp list)) tid ≡ Some tx → is_open tx.cell ≡ true → is_open was.cell ≡ true
  was_open [] book i lawful was tx had found undecided = subst (λ (x : TransactionValue). is_open x.cell ≡ true) (some_same (sym found ∙ had)) undecided
  was_open (act ∷ list) book i lawful was tx had found undecided = by (by_entry book (entry_of n stamp act) i lawful.0)
      (λ later there. was_open list (effect book (entry_of n stamp act)) (ran (entry_of n stamp act ∷ []) book i (lawful.0, tt)).inv lawful.1 later tx there found undecided)
    where
      -- what the rest of the step says of one that is there behind the entry
      Rest : Type 0
      Rest = (later : TransactionValue) → find_transaction (effect book (entry_of n stamp act)) tid ≡ Some later → is_open later.cell ≡ true

      of_begun : (b : Begins book (entry_of n stamp act)) → (b.tid ≡ tid) ⊎ Apart b.tid tid → Rest → is_open was.cell ≡ true
      of_begun b (inl same) rest = absurd (let none : find_transaction book tid ≡ None = ap (find_transaction book) (sym same) ∙ b.new in cc (none, had))
      of_begun b (inr apart) rest = rest was (b.others tid apart ∙ had)

      of_cell : (later : TransactionValue) → is_open later.cell ≡ true → (is_open was.cell ≡ false → later.cell ≡ was.cell) → (b : Bool) → is_open was.cell ≡ b → is_open was.cell ≡ true
      of_cell later still stays true is = is
      of_cell later still stays false over = absurd (let open_now : is_open was.cell ≡ true = subst (λ (k : Cell). is_open k ≡ true) (stays over) still in cc (open_now, over))

      by : Begins book (entry_of n stamp act) ⊎ Turning book (entry_of n stamp act) → Rest → is_open was.cell ≡ true
      by (inl b) rest = of_begun b (same_or_apart b.tid tid) rest
      by (inr t) rest = let p = t.turned.goes tid was had in of_cell p.0 (rest p.0 p.1) p.2.decided (is_open was.cell) refl

-- ---- where a request that stands goes

stands_there : (at : RequestNo) (member : Member) (rs : List Request) → list_all (goes_there at) rs ≡ true → is_some (find (is_standing member) rs) ≡ true → (member.node.0 == at.link.to.0) ≡ true
stands_there at member [] there stands = absurd (cc stands)
stands_there at member (r ∷ rs) there stands = by (is_standing member r) refl (goes_there at r) refl there stands (stands_there at member rs)
  where
    by : (b : Bool) → is_standing member r ≡ b → (k : Bool) → goes_there at r ≡ k → (goes_there at r && list_all (goes_there at) rs) ≡ true → is_some (find (is_standing member) (r ∷ rs)) ≡ true
        → (list_all (goes_there at) rs ≡ true → is_some (find (is_standing member) rs) ≡ true → (member.node.0 == at.link.to.0) ≡ true) → (member.node.0 == at.link.to.0) ≡ true
    by b is false so all stands more = absurd (cc (rw so at all))
    by true is true so all stands more = subst (λ (m : Member). (m.node.0 == at.link.to.0) ≡ true) (same_member-true r.member member (and_first (same_member r.member member) (not r.served) is)) so
    by false is true so all stands more = more (rw so at all) (rw is at stands)

module _ (P : Opening → World → Type 0) (less : (o : Opening) (world : World) → P o world → PlacesAt o world) (o : Opening) (world : World) (ja : Joined P o world) (n stamp free : ℕ) (source : Source) (event : Event) (makes : MakesStep world n stamp source event) (lawful : IsLawful (book_in o world) (entries_in world n stamp free event)) where
  abbrev book : BookValue
  book = book_in o world

  abbrev node : NodeValue
  node = (world.hosts n).node

  j : Joined PlacesAt o world
  j = joined_as P PlacesAt o world (less o world) ja

  its : StepMay world n source
  its = step_may world n stamp source makes.may

  node_is : node.setting.node.0 ≡ n
  node_is = (j.held.nodes n its.low).node

  still : HoldsStill book node
  still = ((j.held.nodes n its.low).runs its.runs).still

  -- ---- what comes is of a client that has nothing in hand, and what begins was unknown

  module _ (tid : Tid) (some : is_some (find_transaction book tid) ≡ true) where
    known_not_next : tm.next_tid (first_work node free).node.manager ≡ tid → ⊥
    known_not_next is = by (still.begun tid home some)
      where
        tidy : IsTidyNode (c world j.shown.steady n free its.low its.runs) (first_work node free).node
        tidy = (begun_tidy world j.shown.steady n free its.low its.runs).node

        home : tid.home ≡ node.setting.node
        home = ap (λ (t : Tid). t.home) (sym is) ∙ tidy.own

        by : HasBegun node.setting.inc node.manager.begun tid → ⊥
        by (inl before) = lt_not_equal tid.inc node.setting.inc before (ap (λ (t : Tid). t.inc) (sym is) ∙ tidy.inc)
        by (inr (same, counted)) = never tid.seq node.manager.begun counted (ap (λ (t : Tid). t.seq) (sym is) ∙ ap (λ (k : ℕ). k + 1) tidy.count)
          where
            never : (a b : ℕ) → a ≤ b → a ≡ b + 1 → ⊥
            never a b less more = omega (arith, less, more)

    comes_so : (e : Event) → IsFree e node.commands → ComesSo tid e (first_work node free)
    comes_so (events.Command client line label command) free_now = ((λ known is. known_not_next is), subst (IsFree (events.Command client line label command)) (sym (coming_first stamp book (work_on node free)).commands) free_now)
    comes_so (events.Received peer message) free_now = tt
    comes_so events.ServeAll free_now = tt
    comes_so (events.PeerRestarted peer old new) free_now = tt
    comes_so events.Tick free_now = tt

  -- its node has decided nothing of what is undecided as the step ends

  pub never_decided : (tid : Tid) (tx : TransactionValue) → find_transaction (book_after book (entries_in world n stamp free event)) tid ≡ Some tx → is_open tx.cell ≡ true → is_some (kept_outcome tid (after_step node event free)) ≡ true → ⊥
  never_decided tid tx found undecided kept = by (kept_outcome tid (after_step node event free)) refl kept
    where
      ended : (d : Decided) → kept_outcome tid (after_step node event free) ≡ Some d → HasEnded (book_after book (entries_in world n stamp free event)) tid d
      ended d is = (step_holds PlacesAt whole_steps o world j n stamp free source event makes).clients.outcomes tid d is

      clash : (out : Outcome) (k : Cell) → is_open k ≡ true → is_outcome out k ≡ true → ⊥
      clash outcomes.Commit cells.Open so it = cc it
      clash outcomes.Abort cells.Open so it = cc it
      clash out cells.Commit so it = cc so
      clash out cells.Abort so it = cc so

      by : (x : Option Decided) → kept_outcome tid (after_step node event free) ≡ x → is_some x ≡ true → ⊥
      by None is some = cc some
      by (Some d) is some = let e = ended d is in clash d.outcome tx.cell undecided (subst (λ (x : TransactionValue). is_outcome d.outcome x.cell ≡ true) (some_same (sym e.found ∙ found)) e.as_kept)

  -- ---- one that stood, and stands

  module _ (replies : EachReplyTrue P) (tid : Tid) (was : TransactionValue) (had : find_transaction book tid ≡ Some was) (was_undecided : is_open was.cell ≡ true) (placed : Placed tid was (field_of world))
      (tx : TransactionValue) (found : find_transaction (book_after book (entries_in world n stamp free event)) tid ≡ Some tx) (undecided : is_open tx.cell ≡ true)
      (at : RequestNo) (member : Member) (from_n : at.link.from.0 ≡ n) (away : (at.link.to.0 == n) ≡ false) (stood : is_some (standing_request was at member) ≡ true) where
    to_member : (member.node.0 == at.link.to.0) ≡ true
    to_member = by (lookup (is_at (request_cmp at)) was.requests) refl stood
      where
        by : (f : Option (List Request)) → lookup (is_at (request_cmp at)) was.requests ≡ f → is_some (find (is_standing member) (unwrap_or (lookup (is_at (request_cmp at)) was.requests) [])) ≡ true → (member.node.0 == at.link.to.0) ≡ true
        by None none stands = absurd (cc (rw none at stands))
        by (Some rs) there stands = stands_there at member rs (each_at request_cmp request_total request_equal request_self (IsPlaced tid (field_of world)) at was.requests rs there (placed_each tid (field_of world) was.requests placed.requests)).there (rw there at stands)

    far : same_node member.node node.setting.node ≡ false
    far = apart member.node.0 at.link.to.0 n node.setting.node.0 to_member away node_is
      where
        apart : (a b m k : ℕ) → (a == b) ≡ true → (b == m) ≡ false → k ≡ m → (a == k) ≡ false
        apart a b m k same off is = grind (arith, nat_tests, same, off, is)

    own_way : at ≡ way_between n member.node.0 at.number
    own_way = ap (λ (a : ℕ). no_as a at.link.to.0) from_n ∙ ap (λ (b : ℕ). no_as n b) (sym (eqb-true member.node.0 at.link.to.0 to_member))
      where
        no_as : ℕ → ℕ → RequestNo
        no_as a b = record { link = record { from = record { 0 = a }; to = record { 0 = b } }; number = at.number }

    never_answered : (peer : NodeNo) (m : Member) (number : ℕ) (reply : Reply) → event ≡ events.Received peer (messages.Answered tid m number reply) → (same_member member m && (at.number == number)) ≡ true → ⊥
    never_answered peer m number reply is same = none_some (standing_request was at member) none stood
      where
        tests : (same_member member m ≡ true) × ((at.number == number) ≡ true)
        tests = and_parts (same_member member m) (at.number == number) same

        true_reply : standing_request was (way_between n m.node.0 number) m ≡ None
        true_reply = replies o world n stamp source peer tid m number reply was ja (subst (MakesStep world n stamp source) is makes) had was_undecided placed

        none : standing_request was at member ≡ None
        none = subst (λ (k : RequestNo). standing_request was k member ≡ None) (sym own_way)
            (subst (λ (k : ℕ). standing_request was (way_between n member.node.0 k) member ≡ None) (sym (eqb-true at.number number tests.1))
            (subst (λ (x : Member). standing_request was (way_between n x.node.0 number) x ≡ None) (sym (same_member-true member m tests.0)) true_reply))

    never_told : (peer : NodeNo) (t : Tid) (outcome : Outcome) → event ≡ events.Received peer (messages.Tell t outcome) → t ≡ tid → ⊥
    never_told peer t outcome is same = clash outcome (ap (λ (k : Cell). is_open k) (some_same (ap cell_of_transaction (sym had) ∙ (ap (λ (u : Tid). cell_of_transaction (find_transaction book u)) (sym same) ∙ said))))
      where
        said : cell_of_transaction (find_transaction book t) ≡ Some (cell_of outcome)
        said = subst (IsTrueEvent book) is (true_event PlacesAt whole_steps steps_stay_unanimous o world j n stamp free source event makes)

        clash : (out : Outcome) → is_open was.cell ≡ is_open (cell_of out) → ⊥
        clash outcomes.Commit e = cc (e, was_undecided)
        clash outcomes.Abort e = cc (e, was_undecided)

    never_taken : (e : Event) → event ≡ e → TakesIt tid member at.number e → ⊥
    never_taken (events.Received peer (messages.Answered t m number reply)) is takes = never_answered peer m number reply (is ∙ ap (λ (u : Tid). events.Received peer (messages.Answered u m number reply)) takes.0) takes.1
    never_taken (events.Received peer (messages.Tell t outcome)) is takes = never_told peer t outcome is takes
    never_taken (events.Received peer messages.Hello) is takes = takes
    never_taken (events.Received peer (messages.Request t label m k issuer op)) is takes = takes
    never_taken (events.Received peer (messages.AskVote t)) is takes = takes
    never_taken (events.Received peer (messages.Covered t up_to)) is takes = takes
    never_taken (events.Received peer (messages.VotedYes t up_to told)) is takes = takes
    never_taken (events.Received peer (messages.VotedAbort t cause)) is takes = takes
    never_taken (events.Received peer (messages.Told t further)) is takes = takes
    never_taken (events.Received peer (messages.Inquire t)) is takes = takes
    never_taken (events.Command client line label command) is takes = takes
    never_taken events.ServeAll is takes = takes
    never_taken (events.PeerRestarted peer old new) is takes = takes
    never_taken events.Tick is takes = takes

    waits_then : WaitsAt tid member at.number node → WaitsAt tid member at.number (after_step node event free)
    waits_then waits = of (steps_wait_on tid member at.number node event free far (comes_so tid (ap is_some had) event (comes_free PlacesAt o world j n stamp free source event makes)) (inl waits))
      where
        of : IsWaiting tid member at.number (after_step node event free) ⊎ TakesIt tid member at.number event → WaitsAt tid member at.number (after_step node event free)
        of (inl (inl w)) = w
        of (inl (inr kept)) = absurd (never_decided tid tx found undecided kept)
        of (inr takes) = absurd (never_taken event refl takes)

-- ---- all that it issued to others

module _ (P : Opening → World → Type 0) (less : (o : Opening) (world : World) → P o world → PlacesAt o world) (replies : EachReplyTrue P) (o : Opening) (world : World) (n stamp free : ℕ) (source : Source) (event : Event) (j : Joined P o world) (makes : MakesStep world n stamp source event) (lawful : IsLawful (book_in o world) (entries_in world n stamp free event))
    (tid : Tid) (w : machine.World) (before : HoldsPlaced tid (book_in o world) (field_of world) w) (awaited : HoldsAwaited tid (book_in o world) (nodes_in world) w) (tx : TransactionValue) (found_next : find_transaction (book_in o (moved (Step n stamp free source) world)) tid ≡ Some tx) (undecided : is_open tx.cell ≡ true) where
  abbrev now : BookValue
  now = book_after (book_in o world) (entries_in world n stamp free event)

  found_now : find_transaction now tid ≡ Some tx
  found_now = subst (λ (b : BookValue). find_transaction b tid ≡ Some tx) (ap (λ (e : Option Event). book_in o (step_with world n stamp free source e)) makes.comes ∙ book_on o world (step_with world n stamp free source (Some event)) (entries_in world n stamp free event) refl) found_next

  open_before : (was : TransactionValue) → find_transaction (book_in o world) tid ≡ Some was → is_open was.cell ≡ true
  open_before was had = was_open n stamp tid (effects_of (world.hosts n).node event free).entries (book_in o world) (amid o world (joined_as P PlacesAt o world (less o world) j) n stamp free source event makes).inv lawful was tx had found_now undecided

  both : AwaitsFresh n tid (book_in o world) tx (after_step (world.hosts n).node event free) → IsDoomed w ⊎ AwaitsOwn n tid tx (after_step (world.hosts n).node event free)
  both fresh = of (find_transaction (book_in o world) tid) refl
    where
      of_known : (was : TransactionValue) → find_transaction (book_in o world) tid ≡ Some was → IsDoomed w ⊎ Placed tid was (field_of world) → IsDoomed w ⊎ AreAwaited tid was (nodes_in world) → IsDoomed w ⊎ AwaitsOwn n tid tx (after_step (world.hosts n).node event free)
      of_known was had (inl doomed) await = inl doomed
      of_known was had (inr placed) (inl doomed) = inl doomed
      of_known was had (inr placed) (inr await) = inr (λ at member from_n away stands. by at member from_n away stands (standing_request was at member) refl)
        where
          by : (at : RequestNo) (member : Member) → at.link.from.0 ≡ n → (at.link.to.0 == n) ≡ false → is_some (standing_request tx at member) ≡ true → (r : Option Request) → standing_request was at member ≡ r → WaitsAt tid member at.number (after_step (world.hosts n).node event free)
          by at member from_n away stands None none = fresh at member from_n away stands (λ other there. subst (λ (x : TransactionValue). standing_request x at member ≡ None) (some_same (sym had ∙ there)) none)
          by at member from_n away stands (Some r) stood = waits_then P less o world j n stamp free source event makes lawful replies tid was had (open_before was had) placed tx found_now undecided at member from_n away (rw stood refl) (await n at member from_n away (rw stood refl))

      of : (x : Option TransactionValue) → find_transaction (book_in o world) tid ≡ x → IsDoomed w ⊎ AwaitsOwn n tid tx (after_step (world.hosts n).node event free)
      of None none = inr (λ at member from_n away stands. fresh at member from_n away stands (λ was had. absurd (cc (none, had))))
      of (Some was) had = of_known was had (before was had (open_before was had)) (awaited was had (open_before was had))

pub own_awaited : (P : Opening → World → Type 0) → ((o : Opening) (world : World) → P o world → PlacesAt o world) → EachReplyTrue P → EachFreshAwaited P → EachOwnAwaited P
own_awaited P less replies fresh o world n stamp free source event j makes lawful tid w shows before awaited tx found undecided placed = by (fresh o world n stamp free source event j makes lawful tid w shows before awaited tx found undecided placed)
  where
    by : IsDoomed w ⊎ AwaitsFresh n tid (book_in o world) tx (after_step (world.hosts n).node event free) → IsDoomed w ⊎ AwaitsOwn n tid tx (after_step (world.hosts n).node event free)
    by (inl doomed) = inl doomed
    by (inr those) = both P less replies o world n stamp free source event j makes lawful tid w before awaited tx found undecided those
