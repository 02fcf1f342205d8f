-- The clients of a script at their seats: their lanes to the node are whole, and no number stands twice.
use Rattle.std.proofs.Common.{◌≡◌, ◌≢◌, ◌∙◌, ◌≤◌, ◌<◌, ap, subst, sym, refl, ℕ, zero, suc, ◌+◌, Bool, true, false, List, [], ◌∷◌, ◌++◌, map, length, arith}
use Rattle.std.specs.Prelude.{⊤}
use Rattle.qs_base.specs.declared.identifiers.ClientNo.{ClientNo}
use Rattle.qs_base.specs.declared.identifiers.NodeNo.{NodeNo}
use Rattle.qs_client.specs.declared.cell.ClientCell.{ClientCell}
use Rattle.qs_client.specs.Progress.{begun}
use Rattle.qs_book_journal.specs.declared.script_line.LineAnswer.{LineAnswer}
use Rattle.qs_book_journal.specs.declared.script_line.ScriptLine.{ScriptLine}
use Rattle.qs_link.specs.Lane.{FeedValue, DrawValue, IsLane, on_way}
use Rattle.qs_world_plans.specs.Plan.{commands_of}
use Rattle.qs_link.specs.Lanes.{is_of}
use Rattle.qs_link.specs.declared.ends.NodeEnds.{NodeEnds}
use Rattle.qs_world_rounds.specs.Lanes.{IsJoined, AllJoined, AreJoined}
use Rattle.qs_world_rounds.specs.Seats.{AreSeated, IsSeated, IsOneMore, sits_at, number_of, seated_below}
use Rattle.qs_book_script.specs.declared.script.Script.{Script}
use Rattle.qs_book_script.specs.declared.script.Seat.{Seat}
use Rattle.std.proofs.lemmas.List.{append-nil, length-map}
use Rattle.std.proofs.lemmas.Bool.Decides.{nat_tests}

-- ---- one more

seated_more : (script : Script) (clients : List ClientCell) (ends : List NodeEnds) (client : ClientCell) (end : NodeEnds) → AreSeated script clients ends
    → IsSeated script client end → AreSeated script (clients ++ client ∷ []) (ends ++ end ∷ [])
seated_more script [] [] client end all one = (one, tt)
seated_more script (c ∷ clients) (e ∷ ends) client end all one = (all.0, seated_more script clients ends client end all.1 one)
seated_more script [] (e ∷ ends) client end all one = absurd all
seated_more script (c ∷ clients) [] client end all one = absurd all

pub seats_after : (script : Script) (number : ClientNo) (clients new_clients : List ClientCell) (ends new_ends : List NodeEnds)
    → IsOneMore script number clients ends new_clients new_ends → AreSeated script clients ends → AreSeated script new_clients new_ends
seats_after script number clients new_clients ends new_ends more all =
    subst (λ (l : List ClientCell). AreSeated script l new_ends) (sym more.clients_are)
    (subst (AreSeated script (clients ++ more.client ∷ [])) (sym more.ends_are) (seated_more script clients ends more.client more.end all more.seat))

-- the one that is made
pub one_more : (script : Script) (number : ClientNo) (lines given : List ScriptLine) (cell : ClientCell) (commands : FeedValue ScriptLine) (answers : DrawValue LineAnswer)
    (to_node : DrawValue ScriptLine) (from_node : FeedValue LineAnswer) (clients new_clients : List ClientCell) (ends new_ends : List NodeEnds)
    → cell ≡ record { client = number; progress = begun lines; commands = commands; answers = answers; acts = 0 }
    → lines ≡ commands_of number given → given ≡ script.lines → IsLane commands to_node → on_way commands to_node ≡ [] → IsLane from_node answers
    → on_way from_node answers ≡ [] → new_clients ≡ clients ++ cell ∷ []
    → new_ends ≡ ends ++ record { client = number; commands = to_node; answers = from_node } ∷ [] → IsOneMore script number clients ends new_clients new_ends
one_more script number lines given cell commands answers to_node from_node clients new_clients ends new_ends is lines_are same to to_none from from_none clients_are ends_are =
    record {
      client = record { client = number; progress = begun lines; commands = commands; answers = answers; acts = 0 };
      end = record { client = number; commands = to_node; answers = from_node };
      number_is = refl;
      seat = record {
        number = refl;
        progress = ap begun (lines_are ∙ ap (commands_of number) same);
        commands = to;
        answers = from;
        no_commands = to_none;
        no_answers = from_none;
      };
      clients_are = clients_are ∙ ap (λ (c : ClientCell). clients ++ c ∷ []) is;
      ends_are = ends_are;
    }

-- ---- no number stands twice

abbrev NoneIs : ClientNo → List ClientNo → Type 0
NoneIs n [] = ⊤
NoneIs n (m ∷ ms) = (m.0 ≢ n.0) × NoneIs n ms

abbrev AreDistinct : List ClientNo → Type 0
AreDistinct [] = ⊤
AreDistinct (n ∷ ns) = NoneIs n ns × AreDistinct ns

abbrev AreBelow : ℕ → List ClientNo → Type 0
AreBelow k [] = ⊤
AreBelow k (n ∷ ns) = (n.0 < k) × AreBelow k ns

below_up : (k : ℕ) (ns : List ClientNo) → AreBelow k ns → AreBelow (suc k) ns
below_up k [] below = tt
below_up k (n ∷ ns) below = (let b = below.0 in omega arith, below_up k ns below.1)

below_more : (k : ℕ) (ns : List ClientNo) (n : ClientNo) → AreBelow k ns → n.0 < k → AreBelow k (ns ++ n ∷ [])
below_more k [] n below less = (less, tt)
below_more k (m ∷ ns) n below less = (below.0, below_more k ns n below.1 less)

none_more : (n m : ClientNo) (ns : List ClientNo) → NoneIs n ns → m.0 ≢ n.0 → NoneIs n (ns ++ m ∷ [])
none_more n m [] none other = (other, tt)
none_more n m (k ∷ ns) none other = (none.0, none_more n m ns none.1 other)

distinct_more : (k : ClientNo) (ns : List ClientNo) → AreBelow k.0 ns → AreDistinct ns → AreDistinct (ns ++ k ∷ [])
distinct_more k [] below distinct = (tt, tt)
distinct_more k (n ∷ ns) below distinct =
    (none_more n k ns distinct.0 (let b = below.0 in omega arith), distinct_more k ns below.1 distinct.1)

record InOrder (k : ℕ) (ns : List ClientNo) : Type 0 where
  below : AreBelow k ns
  distinct : AreDistinct ns
  few : length ns ≤ k

length_more : (ns : List ClientNo) (n : ClientNo) → length (ns ++ n ∷ []) ≡ length ns + 1
length_more [] n = refl
length_more (m ∷ ns) n = let rest = length_more ns n in omega arith

one_further : (node : NodeNo) (seats : List Seat) (k : ℕ) (b : Bool) → sits_at node (record { 0 = k }) seats ≡ b → InOrder k (seated_below node seats k) → InOrder (suc k) (seated_below node seats (suc k))
one_further node seats k true is here = rw is (record {
  below = below_more (suc k) (seated_below node seats k) (record { 0 = k }) (below_up k (seated_below node seats k) here.below) (omega arith);
  distinct = distinct_more (record { 0 = k }) (seated_below node seats k) here.below here.distinct;
  few = let f = here.few in let long = length_more (seated_below node seats k) (record { 0 = k }) in omega arith;
})
one_further node seats k false is here =
    rw (is, append-nil) (record { below = below_up k (seated_below node seats k) here.below; distinct = here.distinct; few = let f = here.few in omega arith })

in_order : (node : NodeNo) (seats : List Seat) (k : ℕ) → InOrder k (seated_below node seats k)
in_order node seats zero = record { below = tt; distinct = tt; few = omega arith }
in_order node seats (suc k) = one_further node seats k (sits_at node (record { 0 = k }) seats) refl (in_order node seats k)

-- ---- the lanes are whole

-- the ends of another client stand before them
behind : (end : NodeEnds) (ends : List NodeEnds) (clients : List ClientCell) → NoneIs end.client (map number_of clients) → AllJoined ends clients
    → AllJoined (end ∷ ends) clients
behind end ends [] none joined = tt
behind end ends (client ∷ clients) none joined = (here, behind end ends clients none.1 joined.1)
  where
    other : is_of client.client end ≡ false
    other = let o = none.0 in grind (arith, nat_tests)

    here : IsJoined (end ∷ ends) client
    here = record { commands = rw other joined.0.commands; answers = rw other joined.0.answers }

all_joined : (script : Script) (clients : List ClientCell) (ends : List NodeEnds) → AreSeated script clients ends → AreDistinct (map number_of clients)
    → AllJoined ends clients
all_joined script [] [] seats distinct = tt
all_joined script (client ∷ clients) (end ∷ ends) seats distinct = (
  here,
  behind end ends clients (subst (λ (n : ClientNo). NoneIs n (map number_of clients)) (sym seats.0.number) distinct.0)
      (all_joined script clients ends seats.1 distinct.1),
)
  where
    same : is_of client.client end ≡ true
    same = let n = seats.0.number in rw n (grind (arith, nat_tests))

    here : IsJoined (end ∷ ends) client
    here = record { commands = rw same seats.0.commands; answers = rw same seats.0.answers }
all_joined script [] (end ∷ ends) seats distinct = absurd seats
all_joined script (client ∷ clients) [] seats distinct = absurd seats

pub joined_seats : (script : Script) (node : NodeNo) (clients : List ClientCell) (ends : List NodeEnds) (k : ℕ) → k ≤ 256 → AreSeated script clients ends
    → map number_of clients ≡ seated_below node script.seats k → AreJoined ends clients
joined_seats script node clients ends k most seats numbers = record {
  each = all_joined script clients ends seats (subst AreDistinct (sym numbers) (in_order node script.seats k).distinct);
  few =
      let few = (in_order node script.seats k).few in
      let same : length (map number_of clients) ≡ length (seated_below node script.seats k) = ap length numbers in
      let all : length (map number_of clients) ≡ length clients = length-map clients number_of in
      omega arith;
}
