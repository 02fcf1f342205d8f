-- Move by move, a run of packets is a run of the world of channels from the same opening.
use Rattle.std.proofs.Common.{ℕ, ◌≤◌, List, [], ◌∷◌, ◌++◌, refl, sym, subst, arith}
use Rattle.std.proofs.lemmas.Bool.Decides.{nat_tests}
use Rattle.qs_session_channels.specs.Channels.{Channels}
use Rattle.qs_book_machine.specs.Book.{BookValue}
use Rattle.qs_book_machine.specs.Lawful.{IsLawful}
use Rattle.qs_world.specs.Moves as channelled
use Rattle.qs_world.specs.Openings.{IsOpening}
use Rattle.qs_world.specs.Runs as runs
use Rattle.qs_world.specs.World.{Opening, Parcel, World, opened_channels}
use Rattle.qs_world_packets.specs.PacketLaws.{EachRunLawful, EachRunShown}
use Rattle.qs_world_packets.specs.PacketMoves.{Move, moved}
use Rattle.qs_world_packets.specs.PacketRuns.{Run}
use Rattle.qs_world_packets.specs.PacketWorld.{PacketWorld, over, setting_in, start, within}
use Rattle.qs_world_packets.specs.WorldShown.{ShowsWorld, moves_of, run_moves}
use Rattle.qs_world_packets.proofs.MovesGo.{each_move_goes}
use Rattle.qs_world_packets.proofs.OpensWithin.{opens_alike, some_inc}

-- as it begins
start_shown : (o : Opening) → IsOpening o → ShowsWorld (start o) (opened_channels (setting_in o))
start_shown o opens = record {
  shows = record {
    inc = refl;
    up = refl;
    own = λ n m up. record {
      born = some_inc o opens n;
      mine = refl;
      peer = refl;
      there = least (setting_in o m).inc;
      waits = λ none. refl;
      none_acked = λ none. refl;
      kept = λ some. absurd (some refl);
      acked = λ some. absurd (some refl);
      taken = λ some. absurd (some refl);
      unposted = λ j lt. refl;
      unhanded = λ i lt. refl;
    };
    packets = λ n m p among. absurd among;
    between = λ n m. record { prefix = λ i j. refl; later = λ i j lt. refl; later_peer = λ i j lt. refl };
  };
  stamped = record {
    began = λ n. record { at = 0; is = grind (arith, nat_tests); by = least 0 };
    kept = λ n m parcel up among. absurd among;
    packets = λ n m p among. absurd among;
  };
}
  where
    least : (k : ℕ) → 0 ≤ k
    least k = grind (arith)

on_append : (ms ns : List channelled.Move) (a b d : World) → runs.Run a ms b → runs.Run b ns d → runs.Run a (ms ++ ns) d
on_append [] ns a b d p q = subst (λ (w : World). runs.Run w ns d) p q
on_append (m ∷ ms) ns a b d p q = (p.0, on_append ms ns (channelled.moved m a) b d p.1 q)

record RunsOn (old : PacketWorld) (moves : List Move) (new : PacketWorld) (c : Channels Parcel) : Type 0 where
  left : Channels Parcel
  run : runs.Run (over old c) (run_moves old moves) (over new left)
  shown : ShowsWorld new left

runs_on : (moves : List Move) (old new : PacketWorld) (c : Channels Parcel) → ShowsWorld old c → Run old moves new → RunsOn old moves new c
runs_on [] old new c s run = subst (λ (w : PacketWorld). RunsOn old [] w c) (sym run) (record { left = c; run = refl; shown = s })
runs_on (move ∷ moves) old new c s run =
    let g = each_move_goes old move c s run.0 in
    let more = runs_on moves (moved move old) new g.left g.shown run.1 in
    record {
      left = more.left;
      run = on_append (moves_of old move) (run_moves (moved move old) moves) (over old c) (over (moved move old) g.left) (over new more.left) g.run more.run;
      shown = more.shown;
    }

pub each_run_shown : EachRunShown
each_run_shown o moves new opens run = let r = runs_on moves (start o) new (opened_channels (setting_in o)) (start_shown o opens) run in record { channels = r.left; run = r.run; shown = r.shown }

pub each_run_lawful : EachRunLawful
each_run_lawful lawful o moves new opens run =
    let r = each_run_shown o moves new opens run in
    let alike = opens_alike o opens in
    subst (λ (book : BookValue). IsLawful book new.journal) alike.book (lawful (within o) (run_moves (start o) moves) (over new r.channels) alike.opens r.run)
