-- Texts that are read one after the other.
use Rattle.std.proofs.Common.{◌≡◌, ◌+◌, ◌-◌, ◌≤◌, ◌<◌, ◌^◌, ℕ, suc, List, [], ◌∷◌, ◌++◌, length, map, Result, Ok, Err, IfOk, All, refl, ap, ◌∙◌, sym, append-nil, length-append, arith}
use Rattle.std.proofs.lemmas.List.{map-append}
use Rattle.std.proofs.lemmas.List.Elements.{All-append, All-from_recursion}
use Rattle.qs_codec.specs.declared.fault.CodecFault.{CodecFault}
use Rattle.qs_codec.specs.Grammar.{Text, Word, Spells}
use Rattle.qs_codec.specs.Reading.{Reading, Reads, text_at}
use Rattle.qs_ops.specs.Spelled.{IsText}
use Rattle.qs_packet.specs.Grammar.{AWord, AText, Texts, SpellsPart}
use Rattle.qs_packet.specs.Reading.{TakesPart, TakesTexts, texts_behind}
use Rattle.qs_record.specs.Grammar.{Joined, SpellsAll}
use Rattle.qs_record.specs.Reading.{Takes}
use Rattle.qs_record.proofs.Readers.{takes_none, takes_joined, takes_as}
use Rattle.qs_record.proofs.Rising.{prepended, prepended_none, prepended_more}
use Rattle.qs_record.proofs.Writers.{all_more}

-- so many of the texts were read
pub record TextsRead (limit count turn : ℕ) (texts : List (List ℕ)) (first here : Reading) : Type 0 where
  pub found : texts_behind limit count first ≡ prepended texts (texts_behind limit (count - turn) here)
  pub counted : length texts ≡ turn
  pub each : All (IsText limit) texts
  pub taken : Takes (SpellsAll (map Text texts)) first here

pub texts_begun : (limit count : ℕ) (r : Reading) → TextsRead limit count 0 [] r r
texts_begun limit count r = record {
  found = prepended_none (texts_behind limit count r) ∙ ap (λ (k : ℕ). prepended [] (texts_behind limit k r)) (omega arith);
  counted = refl;
  each = All-from_recursion (IsText limit) [] tt;
  taken = takes_none (SpellsAll []) r refl;
}

texts_step : (limit turn count : ℕ) (text : List ℕ) (texts : List (List ℕ)) (here next : Reading) → turn < count → text_at limit here ≡ Ok (text, next)
    → prepended texts (texts_behind limit (count - turn) here) ≡ prepended (texts ++ text ∷ []) (texts_behind limit (count - (turn + 1)) next)
unfolding texts_behind
texts_step limit turn count text texts here next below e =
    let left : count - turn ≡ suc (count - (turn + 1)) = omega arith in
    rw (left, e) (prepended_more texts text (texts_behind limit (count - (turn + 1)) next))

-- one text more
takes_text : (text : List ℕ) (texts : List (List ℕ)) (a b c : Reading) → Takes (SpellsAll (map Text texts)) a b → Takes (Spells (Text text)) b c
    → Takes (SpellsAll (map Text (texts ++ text ∷ []))) a c
takes_text text texts a b c p q =
    takes_as (Joined (SpellsAll (map Text texts)) (Spells (Text text))) (SpellsAll (map Text (texts ++ text ∷ []))) a c (as_texts text texts)
    (takes_joined (SpellsAll (map Text texts)) (Spells (Text text)) a b c p q)
  where
    as_texts : (text : List ℕ) (texts : List (List ℕ)) (part : List ℕ) → Joined (SpellsAll (map Text texts)) (Spells (Text text)) part → SpellsAll (map Text (texts ++ text ∷ [])) part
    as_texts text texts part j = rw (map-append Text texts (text ∷ []), j.whole) (all_more (map Text texts) (Text text) j.front j.back j.first j.second)

pub texts_on : (limit count turn : ℕ) (text : List ℕ) (texts : List (List ℕ)) (first here next : Reading) → turn < count → TextsRead limit count turn texts first here
    → text_at limit here ≡ Ok (text, next) → TakesPart (AText limit text) here next → TextsRead limit count (turn + 1) (texts ++ text ∷ []) first next
texts_on limit count turn text texts first here next below old e one =
    let Both : List ℕ → Type 0 = SpellsPart (AText limit text) in
    record {
      found = old.found ∙ texts_step limit turn count text texts here next below e;
      counted = length-append texts (text ∷ []) ∙ ap (λ (k : ℕ). k + 1) old.counted;
      each = All-append (IsText limit) texts (text ∷ []) old.each (All-from_recursion (IsText limit) (text ∷ []) (one.taken.spelled.0, tt));
      taken = takes_text text texts first here next old.taken (takes_as Both (Spells (Text text)) here next (λ part s. s.1) one.taken);
    }

-- one that is refused ends it
pub texts_ended : (limit count turn : ℕ) (texts : List (List ℕ)) (first here : Reading) (fault : CodecFault) → turn < count → TextsRead limit count turn texts first here
    → text_at limit here ≡ Err fault → texts_behind limit count first ≡ Err fault
unfolding texts_behind
texts_ended limit count turn texts first here fault below old e =
    let left : count - turn ≡ suc (count - (turn + 1)) = omega arith in
    old.found ∙ rw (left, e) refl

pub texts_done : (limit count turn : ℕ) (texts : List (List ℕ)) (first here : Reading) → count ≤ turn → TextsRead limit count turn texts first here
    → texts_behind limit count first ≡ Ok (texts, here)
unfolding texts_behind
texts_done limit count turn texts first here all old =
    let none : count - turn ≡ 0 = omega arith in
    old.found ∙ rw (none, append-nil) refl

pub texts_read : (limit count turn : ℕ) (texts : List (List ℕ)) (first here : Reading) → count ≡ turn → TextsRead limit count turn texts first here → TakesTexts limit count first here texts
texts_read limit count turn texts first here all old = record { counted = old.counted ∙ sym all; each = old.each; taken = old.taken }

-- a count, and the texts behind it
pub texts_taken : {E : Type 0} (limit count : ℕ) (result : Result (List (List ℕ)) E) (a b c : Reading) → count < 2 ^ 32 → TakesPart (AWord count) a b
    → IfOk result (TakesTexts limit count b c) → IfOk result (λ texts. TakesPart (Texts limit texts) a c)
texts_taken limit count (Ok texts) a b c below counted behind =
    let few : length texts < 2 ^ 32 = rw behind.counted below in
    let head : Takes (Spells (Word (length texts))) a b = rw behind.counted (takes_as (SpellsPart (AWord count)) (Spells (Word count)) a b (λ part s. s) counted.taken) in
    record {
      taken = takes_as (SpellsAll (Word (length texts) ∷ map Text texts)) (SpellsPart (Texts limit texts)) a c (λ part s. (record { few = few; each = behind.each }, s))
          (takes_joined (Spells (Word (length texts))) (SpellsAll (map Text texts)) a b c head behind.taken);
    }
texts_taken limit count (Err e) a b c below counted behind = tt

-- a text that fits was taken
pub text_taken : (limit : ℕ) {text : List ℕ} {a b : Reading} → length text ≤ limit → Reads (Text text) a b → TakesPart (AText limit text) a b
text_taken limit fits r =
    record { taken = record { part = r.part; spelled = (record { fits = fits; each = r.spelled.each }, r.spelled); whole = r.whole; moved = r.moved } }
