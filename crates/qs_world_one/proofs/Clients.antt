-- What becomes of a client whose line stands somewhere between it and the node, in a world of one node: by where it stands.
use Rattle.std.proofs.Common.{◌≡◌, ◌∙◌, ap, inl, inr, refl, subst, sym, ℕ, ◌+◌, ◌==◌, Bool, true, false, drop, List, [], ◌∷◌, ◌++◌, Option, Some, None, append-nil, arith, if◌then◌else◌}
use Rattle.std.proofs.lemmas.Bool.Decides.{nat_tests}
use Rattle.std.specs.Global.{Global}
use Rattle.qs_client.specs.Progress.{awaits, line_at, to_send}
use Rattle.qs_client.specs.Turns.{Hears, HearsCarried, HearsThenSends, Sends, SendsIf, first_answer}
use Rattle.qs_client.specs.declared.cell.ClientCell.{ClientCell}
use Rattle.qs_client.specs.declared.progress.Progress.{Progress}
use Rattle.qs_book_journal.specs.declared.script_line.LineAnswer.{LineAnswer}
use Rattle.qs_book_journal.specs.declared.script_line.ScriptLine.{ScriptLine}
use Rattle.qs_link.specs.Lane.{DrawValue, Drawn, Fed, on_way}
use Rattle.rtrb.specs.Ring.{IsPair}
use Rattle.rtrb.specs.declared.AnyItems.{AnyItems}
use Rattle.rtrb.specs.declared.consumer.Consumer.{Consumer}
use Rattle.rtrb.specs.declared.producer.Producer.{Producer}
use Rattle.qs_world.specs.World.{Client}
use Rattle.qs_world_one.specs.Clients.{Place, StandsAt, answers_on_way, commands_on_way}
use Rattle.qs_world_one.specs.Turns.{AnswersCarried, ClientTurns, CommandsCarried}
use Rattle.qs_world_one.proofs.Ways.{drawn_way, fed_way}

-- ---- what is the same of a client stands at the same place

pub record IsSame (p q : Place) : Type 0 where
  pub progress : q.client.progress ≡ p.client.progress
  pub commands : commands_on_way q ≡ commands_on_way p
  pub answers : answers_on_way q ≡ answers_on_way p
  pub held : q.held ≡ p.held

pub stands_on : (inc : ℕ) (now : Option ℕ) (p q : Place) (shown : Client) → IsSame p q → StandsAt inc now p shown → StandsAt inc now q shown
stands_on inc now p q shown same (inl s) = inl (record {
  idle = ap (λ (r : Progress). r.is_out) same.progress ∙ s.idle;
  no_command = same.commands ∙ s.no_command;
  not_held = same.held ∙ s.not_held;
  no_answer = same.answers ∙ s.no_answer;
  lines = s.lines ∙ ap (λ (r : Progress). drop r.place r.lines) (sym same.progress);
  unhanded = s.unhanded;
})
stands_on inc now p q shown same (inr (inl s)) = inr (inl (record {
  line = s.line;
  out = ap (λ (r : Progress). r.is_out) same.progress ∙ s.out;
  at = ap line_at same.progress ∙ s.at;
  command = same.commands ∙ s.command;
  not_held = same.held ∙ s.not_held;
  no_answer = same.answers ∙ s.no_answer;
  lines = s.lines ∙ ap (λ (r : Progress). drop r.place r.lines) (sym same.progress);
  unhanded = s.unhanded;
}))
stands_on inc now p q shown same (inr (inr (inl s))) = inr (inr (inl (record {
  line = s.line;
  by = s.by;
  out = ap (λ (r : Progress). r.is_out) same.progress ∙ s.out;
  at = ap line_at same.progress ∙ s.at;
  no_command = same.commands ∙ s.no_command;
  held = same.held ∙ s.held;
  earlier = s.earlier;
  no_answer = same.answers ∙ s.no_answer;
  lines = s.lines ∙ ap (λ (r : Progress). drop r.place r.lines) (sym same.progress);
  handed = s.handed;
})))
stands_on inc now p q shown same (inr (inr (inr s))) = inr (inr (inr (record {
  line = s.line;
  answer = s.answer;
  out = ap (λ (r : Progress). r.is_out) same.progress ∙ s.out;
  at = ap line_at same.progress ∙ s.at;
  no_command = same.commands ∙ s.no_command;
  not_held = same.held ∙ s.not_held;
  comes = same.answers ∙ s.comes;
  number = s.number;
  lines = s.lines ∙ ap (λ (r : Progress). drop (r.place + 1) r.lines) (sym same.progress);
  unhanded = s.unhanded;
})))

-- ---- lanes are carried

pub each_commands_carried : (inc : ℕ) (now : Option ℕ) (p : Place) (shown : Client) → CommandsCarried inc now p shown
each_commands_carried inc now p shown feed draw held s on = record {
  number = s.number;
  commands = on.lane;
  answers = s.answers;
  at = s.at;
  stands = stands_on inc now p _ shown (record { progress = refl; commands = on.way; answers = refl; held = refl }) s.stands;
}

pub each_answers_carried : (inc : ℕ) (now : Option ℕ) (p : Place) (shown : Client) → AnswersCarried inc now p shown
each_answers_carried inc now p shown feed draw heard s on = record {
  number = s.number;
  commands = s.commands;
  answers = on.lane;
  at = s.at;
  stands = stands_on inc now p _ shown (record { progress = refl; commands = refl; answers = on.way; held = refl }) s.stands;
}

-- ---- the client's turn

out_none : (r : Progress) → r.is_out ≡ true → to_send r ≡ None
out_none r out = rw out refl

idle_line : (r : Progress) → r.is_out ≡ false → to_send r ≡ line_at r
idle_line r idle = rw idle refl

-- the answer that it waits for
awaited : (r : Progress) (line : ScriptLine) (answer : LineAnswer) → r.is_out ≡ true → line_at r ≡ Some line → answer.line ≡ line.line → awaits answer.line r ≡ true
awaited r line answer out at number = rw (out, at, number) (itself line.line)
  where
    itself : (n : ℕ) → (n == n) ≡ true
    itself n = grind (arith, nat_tests)

module _ (inc : ℕ) (now : Option ℕ) (p : Place) (shown : Client) (new : ClientCell) where
  abbrev q : Place
  q = record p { client = new }

  abbrev r : Progress
  r = p.client.progress

  -- it sends the line that it stands at, if none is out
  module _ (ring : new.commands.ring ≡ p.client.commands.ring) where
    -- a line is out already
    not_sent : {A : Type 0} (line : ScriptLine) → to_send r ≡ Some line → r.is_out ≡ true → A
    not_sent line e out = absurd (cc (sym (out_none r out) ∙ e))

    send : (line : ScriptLine) → to_send r ≡ Some line → Sends line p.client new → StandsAt inc now p shown → StandsAt inc now q shown
    send line e sends (inr (inl is)) = not_sent line e is.out
    send line e sends (inr (inr (inl is))) = not_sent line e is.out
    send line e sends (inr (inr (inr is))) = not_sent line e is.out
    send line e sends (inl is) = inr (inl (record {
      line = line;
      out = ap (λ (x : Progress). x.is_out) sends.progress;
      at = ap line_at sends.progress ∙ (sym (idle_line r is.idle) ∙ e);
      command = fed_way (line ∷ []) p.client.commands new.commands p.end.commands sends.commands ring ∙ ap (λ (l : List ScriptLine). l ++ line ∷ []) is.no_command;
      not_held = is.not_held;
      no_answer = ap (λ (d : DrawValue LineAnswer). on_way p.end.answers d) sends.answers ∙ is.no_answer;
      lines = is.lines ∙ ap (λ (x : Progress). drop x.place x.lines) (sym sends.progress);
      unhanded = is.unhanded;
    }))

    pub send_if : (t : Option ScriptLine) → to_send r ≡ t → SendsIf t p.client new → StandsAt inc now p shown → StandsAt inc now q shown
    send_if (Some line) e sends is = send line e sends is
    send_if None e same is = subst (λ (c : ClientCell). StandsAt inc now (record p { client = c }) shown) (sym same) is

  -- it takes an answer that was carried, or none was
  module _ (carried : HearsCarried p.client new) where
    -- nothing was put in
    commands_same : Fed [] p.client.commands new.commands → commands_on_way q ≡ commands_on_way p
    commands_same fed = fed_way [] p.client.commands new.commands p.end.commands fed carried.commands ∙ append-nil (commands_on_way p)

    not_there : {A : Type 0} (answer : LineAnswer) → Drawn (answer ∷ []) p.client.answers new.answers → answers_on_way p ≡ [] → A
    not_there answer drawn none = absurd (cc (sym none ∙ drawn_way (answer ∷ []) p.end.answers p.client.answers new.answers drawn carried.answers))

    hear : (answer : LineAnswer) → Hears (Some answer) p.client new → StandsAt inc now p shown → StandsAt inc now q shown
    hear answer hears (inl is) = not_there answer hears.answers is.no_answer
    hear answer hears (inr (inl is)) = not_there answer hears.answers is.no_answer
    hear answer hears (inr (inr (inl is))) = not_there answer hears.answers is.no_answer
    hear answer hears (inr (inr (inr is))) = inl (record {
      idle = ap (λ (x : Progress). x.is_out) progress_is;
      no_command = commands_same hears.commands ∙ is.no_command;
      not_held = is.not_held;
      no_answer = ap (drop 1) (sym way);
      lines = is.lines ∙ ap (λ (x : Progress). drop x.place x.lines) (sym progress_is);
      unhanded = is.unhanded;
    })
      where
        way : is.answer ∷ [] ≡ answer ∷ answers_on_way q
        way = sym is.comes ∙ drawn_way (answer ∷ []) p.end.answers p.client.answers new.answers hears.answers carried.answers

        same : is.answer ≡ answer
        same = cc way

        waits : awaits answer.line r ≡ true
        waits = awaited r is.line answer is.out is.at (ap (λ (a : LineAnswer). a.line) (sym same) ∙ is.number)

        progress_is : new.progress ≡ record r { place = r.place + 1; is_out = false }
        progress_is = hears.progress ∙ ap (λ (b : Bool). if b then record r { place = r.place + 1; is_out = false } else r) waits

    hear_none : Hears None p.client new → StandsAt inc now p shown → StandsAt inc now q shown
    hear_none hears is = stands_on inc now p q shown (record {
      progress = hears.progress;
      commands = commands_same hears.commands;
      answers = sym (drawn_way [] p.end.answers p.client.answers new.answers hears.answers carried.answers);
      held = refl;
    }) is

    pub hear_if : (answer : Option LineAnswer) → Hears answer p.client new → StandsAt inc now p shown → StandsAt inc now q shown
    hear_if (Some answer) hears is = hear answer hears is
    hear_if None hears is = hear_none hears is

pub each_turn : (inc : ℕ) (now : Option ℕ) (p : Place) (shown : Client) → ClientTurns inc now p shown
each_turn inc now p shown new did s visit = record {
  number = s.number ∙ sym visit.client;
  commands = subst (λ (ring : Producer ScriptLine Global AnyItems). IsPair ring p.end.commands.ring) (sym visit.commands) s.commands;
  answers = subst (λ (ring : Consumer LineAnswer Global AnyItems). IsPair p.end.answers.ring ring) (sym visit.answers) s.answers;
  at = s.at;
  stands = send_if inc now (record p { client = t.mid }) shown new (visit.commands ∙ sym t.hears.commands) (to_send t.mid.progress) refl t.sends
      (hear_if inc now p shown t.mid t.hears (first_answer p.client.answers.inbox) t.hears.hears s.stands);
}
  where
    t : HearsThenSends did p.client new
    t = visit.turn
