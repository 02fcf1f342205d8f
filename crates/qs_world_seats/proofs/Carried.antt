-- Lanes are carried: each client by its place, and the others by their numbers.
use Rattle.std.proofs.Common.{◌≡◌, ◌∙◌, ap, inl, inr, refl, subst, sym, ℕ, ◌==◌, false, List, [], ◌∷◌, Option, Some, None, Ok, arith}
use Rattle.std.proofs.lemmas.Bool.Decides.{nat_tests}
use Rattle.qs_book_journal.specs.declared.script_line.LineAnswer.{LineAnswer}
use Rattle.qs_book_journal.specs.declared.script_line.ScriptLine.{ScriptLine}
use Rattle.qs_cell.specs.Starts.{CellValue}
use Rattle.qs_cell.specs.declared.state.CellState.{CellState}
use Rattle.qs_cell.specs.declared.state.CellState.TheVariants as states
use Rattle.qs_cell_chronicle.specs.Carried.{Commands}
use Rattle.qs_cell_chronicle.specs.Chronicle.{Told}
use Rattle.qs_client.specs.declared.cell.ClientCell.{ClientCell}
use Rattle.qs_disk.specs.Disk.{DiskState}
use Rattle.qs_link.specs.Lane.{DrawValue, FeedValue}
use Rattle.qs_link.specs.Lanes.{CarriesIn, CarriesOut, ends_of, with_answers, with_commands}
use Rattle.qs_link.specs.declared.ends.NodeEnds.{NodeEnds}
use Rattle.qs_record.specs.declared.record.Record.{Record}
use Rattle.qs_session_channels.specs.Network.{Among}
use Rattle.qs_world.specs.World.{Client, Opening}
use Rattle.qs_world_one.proofs.Clients.{each_answers_carried, each_commands_carried}
use Rattle.qs_world_one.proofs.Handing.{found_changed, found_other}
use Rattle.qs_world_one.proofs.Numbers.{clients_numbers}
use Rattle.qs_world_one.specs.Seats.{AreApart}
use Rattle.qs_world_one.specs.Clients.{ShowsClient}
use Rattle.qs_world_one.specs.Showing.{ShowsIn, held_for}
use Rattle.qs_world_rounds.specs.Rounds.{CarriesAll, CarriesBoth}
use Rattle.qs_world_seats.proofs.Apart.{apart_as}
use Rattle.qs_world_seats.specs.Carrying.{CarriesGoOn}
use Rattle.qs_world_seats.specs.Reached.{IsInWorld}
use Rattle.qs_world_seats.specs.Seats.{AreSeated, IsSeated, SeatDown, at_home}
use Rattle.qs_world_seats.specs.Shown.{Reaches}

turned : (x y : ℕ) → (x == y) ≡ false → (y == x) ≡ false
turned x y e = grind (arith, nat_tests, e)

-- ---- both lanes of one client

in_other : (before : ClientCell) (after : FeedValue ScriptLine) (olds news : List NodeEnds) (held : ℕ) (o : Option NodeEnds) → CarriesIn before.client before.commands after olds news (Ok held) o
    → (d : ClientCell) → (d.client.0 == before.client.0) ≡ false → ends_of d.client news ≡ ends_of d.client olds
in_other before after olds news held None carries d far = ap (ends_of d.client) carries.0
in_other before after olds news held (Some end) (commands, (is, on)) d far = ap (ends_of d.client) is ∙ found_other before.client d.client (with_commands commands) (λ e. refl) far olds

out_other : (before : ClientCell) (after : DrawValue LineAnswer) (olds news : List NodeEnds) (held : ℕ) (o : Option NodeEnds) → CarriesOut before.client before.answers after olds news (Ok held) o
    → (d : ClientCell) → (d.client.0 == before.client.0) ≡ false → ends_of d.client news ≡ ends_of d.client olds
out_other before after olds news held None carries d far = ap (ends_of d.client) carries.0
out_other before after olds news held (Some end) (answers, (is, on)) d far = ap (ends_of d.client) is ∙ found_other before.client d.client (with_answers answers) (λ e. refl) far olds

module _ (o : Opening) (n inc : ℕ) (now : Option ℕ) (commands : Commands) (shown : ℕ → Client) where
  abbrev seated_in : List NodeEnds → ClientCell → Type 0
  seated_in ends client = IsSeated o n inc now commands ends shown client

  with_ends : (olds news : List NodeEnds) (d : ClientCell) → ends_of d.client news ≡ ends_of d.client olds → seated_in olds d → seated_in news d
  with_ends olds news d same s = record { of = s.of; at = s.at; shows = record { small = s.shows.small; own = s.shows.own; end = s.shows.end; there = same ∙ s.shows.there; shows = s.shows.shows } }

  other : {D : Type 0} (old new : CellValue D) (before after d : ClientCell) → CarriesBoth old new before after → (d.client.0 == before.client.0) ≡ false → seated_in old.seat.ends d → seated_in new.seat.ends d
  other old new before after d c far s = with_ends old.seat.ends new.seat.ends d
      (out_other before after.answers c.mid.seat.ends new.seat.ends c.heard (ends_of before.client c.mid.seat.ends) c.answers d far
      ∙ in_other before after.commands old.seat.ends c.mid.seat.ends c.held (ends_of before.client old.seat.ends) c.commands d far) s

  own : {D : Type 0} (old new : CellValue D) (before after : ClientCell) → CarriesBoth old new before after → seated_in old.seat.ends before → seated_in new.seat.ends after
  own old new before after c s = subst (λ (x : ClientCell). seated_in new.seat.ends x) (sym c.client) (record {
    of = s.of;
    at = s.at;
    shows = on_in (subst (λ (e : Option NodeEnds). CarriesIn before.client before.commands after.commands old.seat.ends c.mid.seat.ends (Ok c.held) e) s.shows.there c.commands);
  })
    where
      world_client : Client
      world_client = at_home shown before.client.0

      on_in : CarriesIn before.client before.commands after.commands old.seat.ends c.mid.seat.ends (Ok c.held) (Some s.shows.end)
          → ShowsIn inc now commands new.seat.ends (at_home shown) (record before { commands = after.commands; answers = after.answers })
      on_in (draw, (mid_is, on)) = on_out (subst (λ (e : Option NodeEnds). CarriesOut before.client before.answers after.answers c.mid.seat.ends new.seat.ends (Ok c.heard) e) mid_there c.answers)
        where
          mid_there : ends_of before.client c.mid.seat.ends ≡ Some (with_commands draw s.shows.end)
          mid_there = ap (ends_of before.client) mid_is ∙ found_changed before.client (with_commands draw) (λ e. refl) old.seat.ends s.shows.end s.shows.there

          first : ShowsClient inc now (record { client = record before { commands = after.commands }; end = with_commands draw s.shows.end; held = held_for before.client commands }) world_client
          first = each_commands_carried inc now (record { client = before; end = s.shows.end; held = held_for before.client commands }) world_client after.commands draw c.held s.shows.shows on

          on_out : CarriesOut before.client before.answers after.answers c.mid.seat.ends new.seat.ends (Ok c.heard) (Some (with_commands draw s.shows.end))
              → ShowsIn inc now commands new.seat.ends (at_home shown) (record before { commands = after.commands; answers = after.answers })
          on_out (feed, (new_is, on_answers)) = record {
            small = s.shows.small;
            own = s.shows.own;
            end = with_answers feed (with_commands draw s.shows.end);
            there = ap (ends_of before.client) new_is ∙ found_changed before.client (with_answers feed) (λ e. refl) c.mid.seat.ends (with_commands draw s.shows.end) mid_there;
            shows = each_answers_carried inc now (record { client = record before { commands = after.commands }; end = with_commands draw s.shows.end; held = held_for before.client commands }) world_client feed after.answers c.heard first on_answers;
          }

  -- ---- all clients

  -- one whose number is none of theirs
  outside : {D : Type 0} (old new : CellValue D) (befores afters : List ClientCell) (d : ClientCell) → CarriesAll old new befores afters → ((c : ClientCell) → Among befores c → (d.client.0 == c.client.0) ≡ false)
      → seated_in old.seat.ends d → seated_in new.seat.ends d
  outside old new [] [] d same far s = subst (λ (x : CellValue _). seated_in x.seat.ends d) (sym same) s
  outside old new [] (a ∷ more) d carries far s = absurd carries
  outside old new (b ∷ bs) [] d carries far s = absurd carries
  outside old new (b ∷ bs) (a ∷ more) d (mid, (both, rest)) far s = outside mid new bs more d rest (λ c there. far c (inr there)) (other old mid b a d both (far b (inl refl)) s)

  all_carried : {D : Type 0} (old new : CellValue D) (befores afters : List ClientCell) → CarriesAll old new befores afters → AreApart befores
      → AreSeated o n inc now commands old.seat.ends shown befores → AreSeated o n inc now commands new.seat.ends shown afters
  all_carried old new [] [] same apart each c there = absurd there
  all_carried old new [] (a ∷ more) carries apart each c there = absurd carries
  all_carried old new (b ∷ bs) [] carries apart each c there = absurd carries
  all_carried old new (b ∷ bs) (a ∷ more) (mid, (both, rest)) apart each c (inl is) =
      subst (λ (x : ClientCell). seated_in new.seat.ends x) is
      (outside mid new bs more a rest (λ x there. far x there) (own old mid b a both (each b (inl refl))))
    where
      far : (x : ClientCell) → Among bs x → (a.client.0 == x.client.0) ≡ false
      far x there = ap (λ (k : ClientCell). k.client.0 == x.client.0) both.client ∙ turned x.client.0 b.client.0 (apart.0 x there)
  all_carried old new (b ∷ bs) (a ∷ more) (mid, (both, rest)) apart each c (inr there) =
      all_carried mid new bs more rest apart.1 (λ d at. other old mid b a d both (apart.0 d at) (each d (inr at))) c there

-- the node stays
node_same : {D : Type 0} (old new : CellValue D) (befores afters : List ClientCell) → CarriesAll old new befores afters → new.seat.node ≡ old.seat.node
node_same old new [] [] same = ap (λ (c : CellValue _). c.seat.node) same
node_same old new [] (a ∷ more) carries = absurd carries
node_same old new (b ∷ bs) [] carries = absurd carries
node_same old new (b ∷ bs) (a ∷ more) (mid, (both, rest)) = node_same mid new bs more rest ∙ both.node

-- ---- the cell is in the world still, where each client is seated as before

pub moved_in : {D : Type 0} (told : Type 0) (state : D → DiskState) (o : Opening) (n : ℕ) (node : CellState D) (olds news : List NodeEnds) (befores afters : List ClientCell)
    → ((inc : ℕ) (now : Option ℕ) (commands : Commands) (shown : ℕ → Client) → AreSeated o n inc now commands olds shown befores → AreSeated o n inc now commands news shown afters)
    → IsInWorld told state o n node olds befores → IsInWorld told state o n node news afters
moved_in told state o n (states.Up running) olds news befores afters on was = record {
  reached = record {
    world = was.reached.world;
    reached = was.reached.reached;
    shows = record {
      node = was.reached.shows.node;
      rising = was.reached.shows.rising;
      own = was.reached.shows.own;
      held = was.reached.shows.held;
      each = on running.carried.setting.inc (Some running.carried.setting.inc) running.carried.commands was.reached.world.clients was.reached.shows.each;
    };
  };
  inc = was.inc;
  stands = was.stands;
}
moved_in told state o n (states.Down stopped) olds news befores afters on was = record {
  first = was.first;
  other = was.other;
  to_first = go was.first was.to_first;
  to_other = go was.other was.to_other;
  images = was.images;
  incs = was.incs;
}
  where
    tells : Told
    tells = stopped.carried.chronicle.told

    go : (log : List Record) → Reaches o n tells (SeatDown o n stopped olds befores log) → Reaches o n tells (SeatDown o n stopped news afters log)
    go log r = record {
      world = r.world;
      reached = r.reached;
      shows = record { node = r.shows.node; rising = r.shows.rising; own = r.shows.own; each = on stopped.carried.setting.inc None stopped.carried.commands r.world.clients r.shows.each };
    }

pub each_carries : {D : Type 0} (told : Type 0) (state : D → DiskState) (o : Opening) (n : ℕ) (old new : CellValue D) (befores afters : List ClientCell) → CarriesGoOn told state o n old new befores afters
each_carries told state o n old new befores afters carries was = record {
  apart = apart_as befores afters (clients_numbers old new befores afters carries) was.apart;
  there = subst (λ (x : CellState _). IsInWorld told state o n x new.seat.ends afters) (sym (node_same old new befores afters carries))
      (moved_in told state o n old.seat.node old.seat.ends new.seat.ends befores afters (λ inc now commands shown each. all_carried o n inc now commands shown old new befores afters carries was.apart each) was.there);
}
