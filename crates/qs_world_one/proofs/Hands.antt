-- A command comes to the node, is answered, or the node stops and starts again: where the client's line stands goes on with the world.
use Rattle.std.proofs.Common.{◌≡◌, ◌∙◌, ap, inl, inr, refl, sym, ℕ, ◌+◌, ◌==◌, ◌≤◌, ◌<◌, Bool, true, false, drop, List, [], ◌∷◌, ◌++◌, Option, Some, None, not, slice_get, arith}
use Rattle.std.proofs.lemmas.Bool.Decides.{nat_tests}
use Rattle.qs_session_channels.proofs.Lists.{drop_drop, get_drop}
use Rattle.qs_cell_chronicle.specs.declared.carried.HeldCommand.{HeldCommand}
use Rattle.qs_cell_chronicle.specs.Carried.{is_due_again}
use Rattle.qs_client.specs.Progress.{line_at}
use Rattle.qs_client.specs.declared.progress.Progress.{Progress}
use Rattle.qs_book_journal.specs.declared.script_line.LineAnswer.{LineAnswer}
use Rattle.qs_book_journal.specs.declared.script_line.ScriptLine.{ScriptLine}
use Rattle.qs_link.specs.Lanes.{first_of, with_answer, without_line}
use Rattle.qs_link.specs.Lane.{on_way}
use Rattle.qs_world.specs.World.{Client}
use Rattle.qs_world.specs.Posting.{answered, next_line}
use Rattle.qs_world_one.specs.Clients.{IsAnswered, Place, ShowsClient, StandsAt, commands_on_way, is_present}
use Rattle.qs_world_one.specs.Turns.{IsTaken, IsTakenAgain, LineAnswered, LineTaken, LineTakenAgain, NodeRisen, NodeStopped, in_hand_by, unhanded}
use Rattle.qs_world_one.proofs.Ways.{first_way, put_way}

-- ---- small facts

itself : (n : ℕ) → (n == n) ≡ true
itself n = grind (arith, nat_tests)

one_of : {A : Type 0} {x y : A} → Some x ≡ Some y → x ≡ y
one_of e = cc e

-- the front of the inbox
pub record Begins (line : ScriptLine) (inbox : List ScriptLine) : Type 0 where
  pub rest : List ScriptLine
  pub is : inbox ≡ line ∷ rest

begins : (line : ScriptLine) (inbox : List ScriptLine) → first_of inbox ≡ Some line → Begins line inbox
begins line [] e = absurd (cc e)
begins line (x ∷ xs) e = record { rest = xs; is = ap (λ (y : ScriptLine). y ∷ xs) (one_of e) }

-- the line that a client stands at is the first of those from there on
first_from : {A : Type 0} (xs : List A) (n : ℕ) → slice_get (drop n xs) 0 ≡ slice_get xs n
first_from xs n = get_drop n xs 0 ∙ ap (slice_get xs) (plus_none n)
  where
    plus_none : (k : ℕ) → k + 0 ≡ k
    plus_none k = omega arith

behind_first : {A : Type 0} (xs : List A) (n : ℕ) → drop 1 (drop n xs) ≡ drop (n + 1) xs
behind_first xs n = drop_drop n 1 xs

-- what the world's client has next
next_is : (r : Progress) (line : ScriptLine) (shown : Client) → line_at r ≡ Some line → shown.lines ≡ drop r.place r.lines → shown.is_handed ≡ false → next_line shown ≡ Some line
next_is r line shown at lines none = rw (none, lines) (first_from r.lines r.place ∙ at)

-- ---- the command comes

module _ (inc : ℕ) (p : Place) (shown : Client) where
  module _ (line : ScriptLine) (s : ShowsClient inc (Some inc) p shown) (none : p.held ≡ None) (first : first_of p.end.commands.inbox ≡ Some line) where
    abbrev q : Place
    q = record p { end = without_line p.end; held = in_hand_by inc line }

    front : Begins line p.end.commands.inbox
    front = begins line p.end.commands.inbox first

    way : commands_on_way p ≡ line ∷ commands_on_way q
    way =
        first_way p.client.commands p.end.commands line front.rest front.is
        ∙ ap (λ (l : List ScriptLine). line ∷ on_way p.client.commands (record p.end.commands { inbox = l })) (sym (ap (drop 1) front.is))

    empty : {A : Type 0} → commands_on_way p ≡ [] → A
    empty is = absurd (cc (sym is ∙ way))

    taken : StandsAt inc (Some inc) p shown → IsTaken inc p line shown
    taken (inl is) = empty is.no_command
    taken (inr (inr (inl is))) = empty is.no_command
    taken (inr (inr (inr is))) = empty is.no_command
    taken (inr (inl is)) = record {
      next = next_is p.client.progress line shown at is.lines is.unhanded;
      at = at;
      shows = record {
        number = s.number;
        commands = s.commands;
        answers = s.answers;
        at = s.at;
        stands = inr (inr (inl (record {
          line = line;
          by = inc;
          out = is.out;
          at = at;
          no_command = ap (drop 1) (sym way ∙ is.command);
          held = refl;
          earlier = omega arith;
          no_answer = is.no_answer;
          lines = is.lines;
          handed = sym (itself inc);
        })));
      };
    }
      where
        same : is.line ≡ line
        same = cc (sym is.command ∙ way)

        at : line_at p.client.progress ≡ Some line
        at = is.at ∙ ap (λ (l : ScriptLine). Some l) same

  module _ (held : HeldCommand) (s : ShowsClient inc (Some inc) p shown) (has : p.held ≡ Some held) (due : is_due_again inc held ≡ true) where
    not_held : {A : Type 0} → p.held ≡ None → A
    not_held none = absurd (cc (sym none ∙ has))

    again : StandsAt inc (Some inc) p shown → IsTakenAgain inc p held.line shown
    again (inl is) = not_held is.not_held
    again (inr (inl is)) = not_held is.not_held
    again (inr (inr (inr is))) = not_held is.not_held
    again (inr (inr (inl is))) = record {
      next = next_is p.client.progress held.line shown at is.lines (is.handed ∙ earlier);
      at = at;
      shows = record {
        number = s.number;
        commands = s.commands;
        answers = s.answers;
        at = s.at;
        stands = inr (inr (inl (record {
          line = held.line;
          by = inc;
          out = is.out;
          at = at;
          no_command = is.no_command;
          held = refl;
          earlier = omega arith;
          no_answer = is.no_answer;
          lines = is.lines;
          handed = sym (itself inc);
        })));
      };
    }
      where
        same : held ≡ record { line = is.line; inc = is.by }
        same = one_of (sym has ∙ is.held)

        at : line_at p.client.progress ≡ Some held.line
        at = is.at ∙ ap (λ (h : HeldCommand). Some h.line) (sym same)

        off : (b : Bool) → not b ≡ true → b ≡ false
        off true e = absurd (cc e)
        off false e = refl

        earlier : is_present is.by (Some inc) ≡ false
        earlier = off (is.by == inc) (ap (λ (h : HeldCommand). not (h.inc == inc)) (sym same) ∙ due)

pub each_taken : (inc : ℕ) (p : Place) (shown : Client) → LineTaken inc p shown
each_taken inc p shown line s none first = taken inc p shown line s none first s.stands

pub each_again : (inc : ℕ) (p : Place) (shown : Client) → LineTakenAgain inc p shown
each_again inc p shown held s has due = again inc p shown held s has due s.stands

-- ---- it is answered

pub each_answered : (inc : ℕ) (now : Option ℕ) (p : Place) (shown : Client) → LineAnswered inc now p shown
each_answered inc now p shown held answer s has number = record {
  number = s.number;
  commands = s.commands;
  answers = s.answers;
  at = s.at;
  stands = inr (inr (inr (by s.stands)));
}
  where
    not_held : {A : Type 0} → p.held ≡ None → A
    not_held none = absurd (cc (sym none ∙ has))

    by : StandsAt inc now p shown → IsAnswered (record p { end = with_answer answer p.end; held = None }) (answered shown)
    by (inl is) = not_held is.not_held
    by (inr (inl is)) = not_held is.not_held
    by (inr (inr (inr is))) = not_held is.not_held
    by (inr (inr (inl is))) = record {
      line = is.line;
      answer = answer;
      out = is.out;
      at = is.at;
      no_command = is.no_command;
      not_held = refl;
      comes = put_way p.end.answers p.client.answers (answer ∷ []) ∙ ap (λ (l : List LineAnswer). l ++ answer ∷ []) is.no_answer;
      number = number ∙ ap (λ (h : HeldCommand). h.line.line) (one_of (sym has ∙ is.held));
      lines = ap (drop 1) is.lines ∙ behind_first p.client.progress.lines p.client.progress.place;
      unhanded = refl;
    }

-- ---- the node stops, and starts again

pub each_stopped : (inc : ℕ) (now : Option ℕ) (p : Place) (shown : Client) → NodeStopped inc now p shown
each_stopped inc now p shown s = record {
  number = s.number;
  commands = s.commands;
  answers = s.answers;
  at = s.at;
  stands = by s.stands;
}
  where
    by : StandsAt inc now p shown → StandsAt inc None p (unhanded shown)
    by (inl is) = inl (record { idle = is.idle; no_command = is.no_command; not_held = is.not_held; no_answer = is.no_answer; lines = is.lines; unhanded = refl })
    by (inr (inl is)) = inr (inl (record {
      line = is.line;
      out = is.out;
      at = is.at;
      command = is.command;
      not_held = is.not_held;
      no_answer = is.no_answer;
      lines = is.lines;
      unhanded = refl;
    }))
    by (inr (inr (inl is))) = inr (inr (inl (record {
      line = is.line;
      by = is.by;
      out = is.out;
      at = is.at;
      no_command = is.no_command;
      held = is.held;
      earlier = is.earlier;
      no_answer = is.no_answer;
      lines = is.lines;
      handed = refl;
    })))
    by (inr (inr (inr is))) = inr (inr (inr (record {
      line = is.line;
      answer = is.answer;
      out = is.out;
      at = is.at;
      no_command = is.no_command;
      not_held = is.not_held;
      comes = is.comes;
      number = is.number;
      lines = is.lines;
      unhanded = refl;
    })))

pub each_risen : (inc : ℕ) (p : Place) (shown : Client) → NodeRisen inc p shown
each_risen inc p shown new s later = record {
  number = s.number;
  commands = s.commands;
  answers = s.answers;
  at = s.at;
  stands = by s.stands;
}
  where
    apart : (a b c : ℕ) → a ≤ b → b < c → (a == c) ≡ false
    apart a b c le lt = grind (arith, nat_tests)

    below : (a b c : ℕ) → a ≤ b → b < c → a ≤ c
    below a b c le lt = omega arith

    by : StandsAt inc None p shown → StandsAt new (Some new) p shown
    by (inl is) = inl is
    by (inr (inl is)) = inr (inl is)
    by (inr (inr (inr is))) = inr (inr (inr is))
    by (inr (inr (inl is))) = inr (inr (inl (record {
      line = is.line;
      by = is.by;
      out = is.out;
      at = is.at;
      no_command = is.no_command;
      held = is.held;
      earlier = below is.by inc new is.earlier later;
      no_answer = is.no_answer;
      lines = is.lines;
      handed = is.handed ∙ sym (apart is.by inc new is.earlier later);
    })))
