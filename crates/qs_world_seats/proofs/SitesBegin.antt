-- A site begins in the world: each client by its seat.
use Rattle.std.proofs.Common.{◌≡◌, ◌∙◌, ap, inl, inr, refl, subst, sym, ℕ, ◌==◌, ◌<◌, ◌≤◌, zero, suc, Bool, true, false, List, [], ◌∷◌, ◌++◌, Some, arith, drop, if◌then◌else◌, nat_lt, slice_get}
use Rattle.std.proofs.lemmas.Bool.Decides.{nat_tests}
use Rattle.std.specs.Global.{Global}
use Rattle.qs_base.specs.declared.identifiers.ClientNo.{ClientNo}
use Rattle.qs_base_lemmas.proofs.Tests.{eqb-self}
use Rattle.qs_book_journal.specs.declared.script_line.ScriptLine.{ScriptLine}
use Rattle.qs_book_script.specs.declared.script.Script.{Script}
use Rattle.qs_cell.specs.Restart.{inc_of}
use Rattle.qs_cell.specs.Starts.{IsStarted}
use Rattle.qs_cell.specs.declared.starting.NodePlan.{NodePlan}
use Rattle.qs_cell.specs.declared.state.CellState.{CellState}
use Rattle.qs_client.specs.declared.cell.ClientCell.{ClientCell}
use Rattle.qs_client.specs.declared.progress.Progress.{Progress}
use Rattle.qs_disk.specs.Disk.{DiskState}
use Rattle.qs_link.specs.Lanes.{ends_of, is_of}
use Rattle.qs_link.specs.declared.ends.NodeEnds.{NodeEnds}
use Rattle.qs_node_step.specs.declared.setting.Setting.{Setting}
use Rattle.qs_session_channels.specs.Network.{Among}
use Rattle.qs_world.specs.Moves as moves
use Rattle.qs_world.specs.World.{Opening}
use Rattle.qs_world_one.specs.Seats.{AreApart}
use Rattle.qs_world_packets.specs.PacketWorld.{start}
use Rattle.qs_world_plans.specs.Plan.{commands_of}
use Rattle.qs_world_plans.specs.Waiting.{client_count}
use Rattle.qs_world_rounds.specs.Rounds.{Cast}
use Rattle.qs_world_rounds.specs.Seats.{AreSeated, IsSeated}
use Rattle.qs_world_seats.proofs.Starting.{each_seat_begins}
use Rattle.qs_world_seats.specs.Reached.{IsInWorld}
use Rattle.qs_world_seats.specs.Seats as seats
use Rattle.qs_world_seats.specs.Seats.{HasCell}
use Rattle.qs_world_seats.specs.Sites.{AreNumbered, OpensSite, SiteBegins}
use Rattle.qs_world_seats.specs.Visiting.{AreOfClients}

-- ---- each client by its seat

record HasSeat (script : Script) (client : ClientCell) (ends : List NodeEnds) : Type 0 where
  end : NodeEnds
  there : ends_of client.client ends ≡ Some end
  seat : IsSeated script client end

its_seat : (script : Script) (clients : List ClientCell) (ends : List NodeEnds) → AreSeated script clients ends → AreApart clients → (client : ClientCell) → Among clients client → HasSeat script client ends
its_seat script [] ends seated apart client there = absurd there
its_seat script (c ∷ clients) [] seated apart client there = absurd seated
its_seat script (c ∷ clients) (e ∷ ends) seated apart client (inl is) = subst (λ (x : ClientCell). HasSeat script x (e ∷ ends)) is (record {
  end = e;
  there = let at : is_of c.client e ≡ true = ap (λ (k : ClientNo). k.0 == c.client.0) seated.0.number ∙ eqb-self c.client.0 in rw at refl;
  seat = seated.0;
})
its_seat script (c ∷ clients) (e ∷ ends) seated apart client (inr there) =
    let rest : HasSeat script client ends = its_seat script clients ends seated.1 apart.1 client there in
    let far : is_of client.client e ≡ false = ap (λ (k : ClientNo). k.0 == client.client.0) seated.0.number ∙ turned client.client.0 c.client.0 (apart.0 client there) in
    record { end = rest.end; there = rw far rest.there; seat = rest.seat }
  where
    turned : (x y : ℕ) → (x == y) ≡ false → (y == x) ≡ false
    turned x y e = grind (arith, nat_tests, e)

-- each lane is of the client that has its seat
lanes_of : (script : Script) (clients : List ClientCell) (ends : List NodeEnds) → AreSeated script clients ends → AreOfClients ends clients
lanes_of script [] [] seated end there = absurd there
lanes_of script [] (e ∷ ends) seated end there = absurd seated
lanes_of script (c ∷ clients) [] seated end there = absurd there
lanes_of script (c ∷ clients) (e ∷ ends) seated end (inl is) = record { cell = c; there = inl refl; is = sym seated.0.number ∙ ap (λ (x : NodeEnds). x.client) is }
lanes_of script (c ∷ clients) (e ∷ ends) seated end (inr there) =
    let it : HasCell end.client clients = lanes_of script clients ends seated.1 end there in
    record { cell = it.cell; there = inr it.there; is = it.is }

-- its lines are its own
own_line : (client : ClientNo) (lines : List ScriptLine) (n : ℕ) (line : ScriptLine) → slice_get (commands_of client lines) n ≡ Some line → line.client ≡ client
own_line client [] n line e = absurd (cc e)
own_line client (l ∷ lines) n line e = by (λ m at. own_line client lines m line at) (l.client.0 == client.0) refl n e
  where
    one : {x y : ScriptLine} → Some x ≡ Some y → x ≡ y
    one is = cc is

    number : (a b : ClientNo) → (a.0 == b.0) ≡ true → a ≡ b
    number a b is = ap (λ (k : ℕ). record { 0 = k }) (same a.0 b.0 is)
      where
        same : (x y : ℕ) → (x == y) ≡ true → x ≡ y
        same x y equal = grind (arith, nat_tests, equal)

    by : ((m : ℕ) → slice_get (commands_of client lines) m ≡ Some line → line.client ≡ client) → (b : Bool) → (l.client.0 == client.0) ≡ b → (m : ℕ) → slice_get ((if b then l ∷ [] else []) ++ commands_of client lines) m ≡ Some line → line.client ≡ client
    by more true is zero at = ap (λ (x : ScriptLine). x.client) (sym (one at)) ∙ number l.client client is
    by more true is (suc m) at = more m at
    by more false is m at = more m at

smaller : (n few many : ℕ) → n < few → few ≤ many → nat_lt n many ≡ true
smaller n few many less within = grind (arith, nat_tests)

-- ---- the site

module _ {D : Type 0} (told : Type 0) (state : D → DiskState) (o : Opening) (n : ℕ) (alloc : Global) (given : Setting) (plan : NodePlan) (script : Script) (disk : D) (cast : Cast D)
    (started : IsStarted told state alloc disk given cast.node.links cast.node.seat.ends plan cast.node) (opens : OpensSite alloc n given script cast.clients started.running.host.log o)
    (numbered : AreNumbered client_count cast.clients) (seated : AreSeated script cast.clients cast.node.seat.ends) where
  abbrev inc : ℕ
  inc = inc_of started.running.host.log

  shown : (client : ClientCell) → Among cast.clients client → seats.IsSeated o n inc (Some inc) [] cast.node.seat.ends (start o).clients client
  shown client there = record {
    of = ap (λ (c : ℕ × List ScriptLine). c.0) (opens.scripts client there);
    at = ap (λ (c : ℕ × List ScriptLine). c.0) (opens.scripts client there);
    shows = record {
      small = smaller client.client.0 client_count moves.client_count (numbered.below client there) (omega arith);
      own = λ m line at. own_line client.client script.lines m line (ap (λ (r : Progress). slice_get r.lines m) (sym has.seat.progress) ∙ at);
      end = has.end;
      there = has.there;
      shows = record {
        number = has.seat.number;
        commands = has.seat.commands;
        answers = has.seat.answers;
        at = refl;
        stands = inl (record {
          idle = ap (λ (r : Progress). r.is_out) has.seat.progress;
          no_command = has.seat.no_commands;
          not_held = refl;
          no_answer = has.seat.no_answers;
          lines = ap (λ (c : ℕ × List ScriptLine). c.1) (opens.scripts client there) ∙ ap (λ (r : Progress). drop r.place r.lines) (sym has.seat.progress);
          unhanded = refl;
        });
      };
    };
  }
    where
      has : HasSeat script client cast.node.seat.ends
      has = its_seat script cast.clients cast.node.seat.ends seated numbered.apart client there

  there_begun : told → IsInWorld told state o n cast.node.seat.node cast.node.seat.ends cast.clients
  there_begun t = subst (λ (x : CellState D). IsInWorld told state o n x cast.node.seat.ends cast.clients) (sym started.node)
      (each_seat_begins told state o n alloc given plan.crashes plan.points started.running.host.log started.running cast.node.seat.ends cast.clients started.begins (started.raised t).waiting opens.node started.stands shown)

pub each_site_begins : {D : Type 0} (told : Type 0) (state : D → DiskState) (o : Opening) (n : ℕ) (alloc : Global) (given : Setting) (plan : NodePlan) (script : Script) (disk : D) (cast : Cast D) → SiteBegins told state o n alloc given plan script disk cast
each_site_begins told state o n alloc given plan script disk cast t started opens numbered seated = record {
  there = record { apart = numbered.apart; there = there_begun told state o n alloc given plan script disk cast started opens numbered seated t };
  lanes = lanes_of script cast.clients cast.node.seat.ends seated;
}
