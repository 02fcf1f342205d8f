-- In the middle of a step all places hold on to what they held through what leaves them, and through each act for which there is room.
use Rattle.qs_world_runs.proofs.Words.{◌≡◌, ℕ, ◌+◌, ◌==◌, ◌&&◌, not, Bool, true, false, List, [], ◌∷◌, ◌++◌, length, map, None, refl, sym, ap, subst, ◌∙◌, if◌then◌else◌, filter, ServerNo, Tid, Act, Entry, Inv, after_both, lawful_front, lawful_rest, ran, Obliged, BookValue, book_after, broken, effect, RequestNo, Message, Work, entries_of, entry_of, sent_to, Field, asked, waiting, OpenPlaced, is_loud, loud, Here, LeavesPlaces, PlacedAmid, book_amid, field_amid, eq_le}
use Rattle.qs_book_machine.specs.Lawful.{IsLawful}
use Rattle.qs_world_lawful.specs.Face.{is_numbered, waiting_at}
use Rattle.qs_world_runs.specs.PlacesAmid.{counted}
use Rattle.qs_world_runs.proofs.PlacedActs.{begun_placed, open_grown, quiet_obliged, step_here}
use Rattle.qs_world_runs.proofs.PlacedTx.{Grows, back, there}
use Rattle.qs_world_runs.proofs.PlacesLeft.{asked_more}

mapped : {A B : Type 0} (f : A → B) (xs ys : List A) → map f (xs ++ ys) ≡ map f xs ++ map f ys
mapped f [] ys = refl
mapped f (x ∷ xs) ys = ap (λ (rest : List _). f x ∷ rest) (mapped f xs ys)

-- ---- the field

-- all that is there, as numbers
abbrev pub room : Bool → Bool → Bool → ℕ → ℕ → ℕ → ℕ → ℕ → ℕ
room here goes_now stays_back waits waits_there on_way kept_back sends = (if here then waits else waits_there) + ((on_way + (if goes_now then sends else 0)) + (kept_back + (if stays_back then sends else 0)))

module _ (t : Tid) (base : Field) (knows : ℕ → ℕ) (n : ℕ) where
  abbrev amid : Work → Field
  amid work = field_amid base knows n work

  -- how many wait at a server
  pub waits_amid : (work : Work) (at : RequestNo) (server : ServerNo) → waiting t (amid work) at server ≡ (if at.link.to.0 == n then counted t at server work.node else waiting t base at server)
  waits_amid work at server = by (at.link.to.0 == n)
    where
      by : (b : Bool) → length (filter (is_numbered at) (waiting_at (if b then work.node else base.node at.link.to.0) t server)) ≡ (if b then counted t at server work.node else waiting t base at server)
      by true = refl
      by false = refl

  -- how many are on their way, and kept back
  sent_if : (b : Bool) (xs : List Message) (server : ServerNo) (number : ℕ) → asked t server number (if b then xs else []) ≡ (if b then asked t server number xs else 0)
  sent_if true xs server number = refl
  sent_if false xs server number = refl

  abbrev goes : RequestNo → Bool
  goes at = (at.link.from.0 == n) && ((knows at.link.to.0 == base.inc at.link.to.0) && not (knows at.link.to.0 == 0))

  abbrev stays : RequestNo → Bool
  stays at = (at.link.from.0 == n) && (knows at.link.to.0 == 0)

  abbrev posted : Work → RequestNo → ServerNo → ℕ
  posted work at server = asked t server at.number (sent_to at.link.to.0 work.out.messages)

  pub sent_amid : (work : Work) (at : RequestNo) (server : ServerNo) → asked t server at.number ((amid work).sent at.link.from.0 at.link.to.0) ≡ asked t server at.number (base.sent at.link.from.0 at.link.to.0) + (if goes at then posted work at server else 0)
  sent_amid work at server = asked_more t server at.number (base.sent at.link.from.0 at.link.to.0) (if goes at then sent_to at.link.to.0 work.out.messages else [])
      ∙ ap (λ (k : ℕ). asked t server at.number (base.sent at.link.from.0 at.link.to.0) + k) (sent_if (goes at) (sent_to at.link.to.0 work.out.messages) server at.number)

  pub kept_amid : (work : Work) (at : RequestNo) (server : ServerNo) → back t (amid work) at server ≡ back t base at server + (if stays at then posted work at server else 0)
  kept_amid work at server = asked_more t server at.number (base.kept at.link.from.0 at.link.to.0) (if stays at then sent_to at.link.to.0 work.out.messages else [])
      ∙ ap (λ (k : ℕ). back t base at server + k) (sent_if (stays at) (sent_to at.link.to.0 work.out.messages) server at.number)

  pub there_amid : (work : Work) (at : RequestNo) (server : ServerNo) → there t (amid work) at server
      ≡ room (at.link.to.0 == n) (goes at) (stays at) (counted t at server work.node) (waiting t base at server) (asked t server at.number (base.sent at.link.from.0 at.link.to.0)) (back t base at server) (posted work at server)
  there_amid work at server = three (waits_amid work at server) (sent_amid work at server) (kept_amid work at server)
    where
      three : {a b c d e f : ℕ} → a ≡ d → b ≡ e → c ≡ f → a + (b + c) ≡ d + (e + f)
      three p q r = rw (p, q, r) refl

  pub amid_grows : (work new : Work) → LeavesPlaces t work new → Grows t (amid work) (amid new)
  amid_grows work new l = record {
    nodes = record { size = refl; up = λ k. refl; inc = λ k. refl };
    room = λ at. record {
      runs = λ up server. eq_le (there t (amid work) at server) (there t (amid new) at server) (sym (there_amid new at server ∙ (same at server ∙ sym (there_amid work at server))));
      stopped = λ off server. eq_le (back t (amid work) at server) (back t (amid new) at server) (sym (kept_amid new at server ∙ (ap (λ (k : ℕ). back t base at server + (if stays at then k else 0)) (l.asks at.link.to.0 server at.number) ∙ sym (kept_amid work at server))));
    };
  }
    where
      same : (at : RequestNo) (server : ServerNo) → room (at.link.to.0 == n) (goes at) (stays at) (counted t at server new.node) (waiting t base at server) (asked t server at.number (base.sent at.link.from.0 at.link.to.0)) (back t base at server) (posted new at server)
          ≡ room (at.link.to.0 == n) (goes at) (stays at) (counted t at server work.node) (waiting t base at server) (asked t server at.number (base.sent at.link.from.0 at.link.to.0)) (back t base at server) (posted work at server)
      same at server = ap (λ (k : ℕ). room (at.link.to.0 == n) (goes at) (stays at) k (waiting t base at server) (asked t server at.number (base.sent at.link.from.0 at.link.to.0)) (back t base at server) (posted new at server)) (l.waits at server)
          ∙ ap (λ (k : ℕ). room (at.link.to.0 == n) (goes at) (stays at) (counted t at server work.node) (waiting t base at server) (asked t server at.number (base.sent at.link.from.0 at.link.to.0)) (back t base at server) k) (l.asks at.link.to.0 server at.number)

-- ---- the machine

-- entries of a list of acts that do not bear on it
quiet_here : (t : Tid) (field : Field) (n stamp : ℕ) (es : List Act) (book : BookValue) → loud t es ≡ [] → Inv book → IsLawful book (entries_of n stamp es) → Here t (OpenPlaced t field) book → Here t (OpenPlaced t field) (book_after book (entries_of n stamp es))
quiet_here t field n stamp [] book none i lawful before = before
quiet_here t field n stamp (act ∷ es) book none i lawful before = by (is_loud t act) refl none (λ rest. quiet_here t field n stamp es (effect book (entry_of n stamp act)) rest (ran (entry_of n stamp act ∷ []) book i (lawful.0, tt)).inv lawful.1)
  where
    by : (b : Bool) → is_loud t act ≡ b → loud t (act ∷ es) ≡ [] → (loud t es ≡ [] → Here t (OpenPlaced t field) (effect book (entry_of n stamp act)) → Here t (OpenPlaced t field) (book_after book (entries_of n stamp (act ∷ es))))
        → Here t (OpenPlaced t field) (book_after book (entries_of n stamp (act ∷ es)))
    by true is none more = absurd (cc (rw is at none))
    by false is none more = more (rw is at none)
        (step_here t (OpenPlaced t field) (OpenPlaced t field) book (entry_of n stamp act) i lawful.0 (quiet_obliged t field book stamp n act is) (λ label client ticks is_it. begun_placed t field label client ticks) before)

module _ (t : Tid) (base : Field) (knows : ℕ → ℕ) (n stamp : ℕ) (before : BookValue) (i : Inv before) where
  abbrev pub entries : Work → List Entry
  entries work = entries_of n stamp work.out.entries

  abbrev pub Amid : Work → Type 0
  Amid work = PlacedAmid t base knows n stamp before work

  both : (work new : Work) (more : List Act) → new.out.entries ≡ work.out.entries ++ more → entries new ≡ entries work ++ entries_of n stamp more
  both work new more is = ap (λ (es : List Act). entries_of n stamp es) is ∙ mapped (entry_of n stamp) work.out.entries more

  -- what is lawful with more was lawful before
  pub lawful_then : (work new : Work) (more : List Act) → new.out.entries ≡ work.out.entries ++ more → IsLawful before (entries new) → IsLawful before (entries work)
  lawful_then work new more is lawful = lawful_front (entries work) (entries_of n stamp more) before (subst (λ (es : List Entry). IsLawful before es) (both work new more is) lawful)

  pub rest_of : (work new : Work) (more : List Act) → new.out.entries ≡ work.out.entries ++ more → IsLawful before (entries new) → IsLawful (book_amid n stamp before work) (entries_of n stamp more)
  rest_of work new more is lawful = lawful_rest (entries work) (entries_of n stamp more) before (subst (λ (es : List Entry). IsLawful before es) (both work new more is) lawful)

  pub book_is : (work new : Work) (more : List Act) → new.out.entries ≡ work.out.entries ++ more → book_amid n stamp before new ≡ book_after (book_amid n stamp before work) (entries_of n stamp more)
  book_is work new more is = ap (book_after before) (both work new more is) ∙ after_both (entries work) (entries_of n stamp more) before

  pub inv_amid : (work : Work) → IsLawful before (entries work) → Inv (book_amid n stamp before work)
  inv_amid work lawful = (ran (entries work) before i lawful).inv

  pub left_on : (work new : Work) → LeavesPlaces t work new → IsLawful before (entries new) → Amid work → Amid new
  left_on work new l lawful placed = subst (λ (book : BookValue). Here t (OpenPlaced t (field_amid base knows n new)) book) (sym (book_is work new l.more l.entries))
      (quiet_here t (field_amid base knows n new) n stamp l.more (book_amid n stamp before work) l.silent (inv_amid work (lawful_then work new l.more l.entries lawful)) (rest_of work new l.more l.entries lawful)
      (λ tx found. open_grown t (field_amid base knows n work) (field_amid base knows n new) (amid_grows t base knows n work new l) tx (placed tx found)))

  -- what the act's own entry was allowed
  pub act_on : (work new : Work) (act : Act) → new.out.entries ≡ work.out.entries ++ act ∷ [] → IsLawful before (entries new)
      → (broken (book_amid n stamp before work) (entry_of n stamp act) ≡ None → Obliged t (OpenPlaced t (field_amid base knows n work)) (OpenPlaced t (field_amid base knows n new)) (book_amid n stamp before work) stamp n act) → Amid work → Amid new
  act_on work new act is lawful gives placed = subst (λ (book : BookValue). Here t (OpenPlaced t (field_amid base knows n new)) book) (sym (book_is work new (act ∷ []) is))
      (step_here t (OpenPlaced t (field_amid base knows n work)) (OpenPlaced t (field_amid base knows n new)) (book_amid n stamp before work) (entry_of n stamp act) (inv_amid work (lawful_then work new (act ∷ []) is lawful)) allowed (gives allowed)
      (λ label client ticks is_it. begun_placed t (field_amid base knows n new) label client ticks) placed)
    where
      allowed : broken (book_amid n stamp before work) (entry_of n stamp act) ≡ None
      allowed = (rest_of work new (act ∷ []) is lawful).0
