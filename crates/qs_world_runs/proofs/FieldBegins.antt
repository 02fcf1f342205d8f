-- As a step begins nothing was sent: its field is that of the world.
use Rattle.qs_world_runs.proofs.Words.{◌≡◌, ℕ, ◌+◌, ◌≤◌, ◌==◌, ◌&&◌, not, Bool, true, false, List, [], ◌++◌, refl, sym, ap, ◌∙◌, arith, if◌then◌else◌, eqb-true, ServerNo, Tid, RequestNo, Message, Work, work_on, World, Field, asked, field_of, waiting, field_amid, eq_le}
use Rattle.qs_world_runs.specs.PlacesAmid.{counted}
use Rattle.qs_world_runs.specs.PlacesEnds.{StepBegins}
use Rattle.qs_world_runs.proofs.PlacedActs.{open_grown}
use Rattle.qs_world_runs.proofs.PlacedAmid.{waits_amid}
use Rattle.qs_world_runs.proofs.PlacedTx.{Grows, back, there}
use Rattle.qs_world_runs.proofs.PlacesLeft.{asked_more}

pub three_more : (a b c d e f : ℕ) → a ≤ d → b ≤ e → c ≤ f → a + (b + c) ≤ d + (e + f)
three_more a b c d e f p q r = omega (arith, p, q, r)

module _ (t : Tid) (world : World) (n free : ℕ) where
  abbrev first : Work
  first = work_on (world.hosts n).node free

  abbrev first_field : Field
  first_field = field_amid (field_of world) (world.channels.peer n) n first

  begin_grows : Grows t (field_of world) first_field
  begin_grows = record {
    nodes = record { size = refl; up = λ k. refl; inc = λ k. refl };
    room = λ at. record { runs = λ up server. all at server; stopped = λ off server. kept at server };
  }
    where
      none_if : (b : Bool) (server : ServerNo) (number : ℕ) → asked t server number (if b then [] else []) ≡ 0
      none_if true server number = refl
      none_if false server number = refl

      more : (server : ServerNo) (number : ℕ) (xs : List Message) (b : Bool) → asked t server number xs ≤ asked t server number (xs ++ (if b then [] else []))
      more server number xs b = up (asked t server number xs) (asked t server number (xs ++ (if b then [] else []))) (asked t server number (if b then [] else [])) (asked_more t server number xs (if b then [] else []))
        where
          up : (a c k : ℕ) → c ≡ a + k → a ≤ c
          up a c k e = omega (arith, e)

      waits : (at : RequestNo) (server : ServerNo) → waiting t (field_of world) at server ≤ waiting t first_field at server
      waits at server = by (at.link.to.0 == n) refl
        where
          by : (b : Bool) → (at.link.to.0 == n) ≡ b → waiting t (field_of world) at server ≤ waiting t first_field at server
          by b is = eq_le (waiting t (field_of world) at server) (waiting t first_field at server) (sym (waits_amid t (field_of world) (world.channels.peer n) n first at server ∙ picked b is))
            where
              picked : (b : Bool) → (at.link.to.0 == n) ≡ b → (if at.link.to.0 == n then counted t at server (world.hosts n).node else waiting t (field_of world) at server) ≡ waiting t (field_of world) at server
              picked true same = ap (λ (c : Bool). if c then counted t at server (world.hosts n).node else waiting t (field_of world) at server) same ∙ ap (λ (k : ℕ). counted t at server (world.hosts k).node) (sym (eqb-true at.link.to.0 n same))
              picked false apart = ap (λ (c : Bool). if c then counted t at server (world.hosts n).node else waiting t (field_of world) at server) apart

      kept : (at : RequestNo) (server : ServerNo) → back t (field_of world) at server ≤ back t first_field at server
      kept at server = more server at.number ((field_of world).kept at.link.from.0 at.link.to.0) ((at.link.from.0 == n) && (world.channels.peer n at.link.to.0 == 0))

      all : (at : RequestNo) (server : ServerNo) → there t (field_of world) at server ≤ there t first_field at server
      all at server = three_more (waiting t (field_of world) at server) (asked t server at.number ((field_of world).sent at.link.from.0 at.link.to.0)) (back t (field_of world) at server) (waiting t first_field at server)
          (asked t server at.number (first_field.sent at.link.from.0 at.link.to.0)) (back t first_field at server) (waits at server)
          (more server at.number ((field_of world).sent at.link.from.0 at.link.to.0) ((at.link.from.0 == n) && ((world.channels.peer n at.link.to.0 == world.channels.inc at.link.to.0) && not (world.channels.peer n at.link.to.0 == 0)))) (kept at server)

pub step_begins : StepBegins
step_begins t book world n stamp free before tx found = open_grown t (field_of world) (first_field t world n free) (begin_grows t world n free) tx (before tx found)
