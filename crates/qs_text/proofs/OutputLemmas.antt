-- Facts about the nodes of an output.
use Rattle.std.proofs.Common.{◌≡◌, ◌<◌, ◌≤◌, ℕ, ◌+◌, zero, suc, List, [], ◌∷◌, ◌++◌, drop, Some, None, refl, sym, ap, ◌∙◌, append_assoc, add-one, arith}
use Rattle.std.specs.Prelude.{slice_get}
use Rattle.std.proofs.Math.Seq.{drop-nil}
use Rattle.std.proofs.lemmas.Bool.{lt-ltb, le-ltb}
use Rattle.std.proofs.lemmas.List.{append-nil}
use Rattle.std.specs.Prelude.{Bool}
use Rattle.qs_book_machine.specs.Book.{BookValue}
use Rattle.qs_book_machine.specs.Nodes.{NodeValue}
use Rattle.qs_book_journal.specs.declared.entry.Entry.{Entry}
use Rattle.qs_text.specs.Output.{clients_text, client_part, nodes_text, node_text, totals_text, shown_journal, out_of}
use Rattle.qs_book_script.specs.declared.script.Script.{Script}
use Rattle.qs_book_script.specs.declared.script.Seat.{Seat}

at_node : (nodes : List NodeValue) (number : ℕ) (node : NodeValue) → slice_get nodes number ≡ Some node → drop number nodes ≡ node ∷ drop (suc number) nodes
at_node [] number node e = cc
at_node (first ∷ nodes) zero node e = let same : first ≡ node = cc in rw same refl
at_node (first ∷ nodes) (suc number) node e = at_node nodes number node e

at_end : (nodes : List NodeValue) (number : ℕ) → slice_get nodes number ≡ None → drop number nodes ≡ []
at_end [] number e = drop-nil number
at_end (first ∷ nodes) zero e = cc
at_end (first ∷ nodes) (suc number) e = at_end nodes number e

pub node_more : (out new start : List ℕ) (number next : ℕ) (node : NodeValue) (nodes : List NodeValue) → number + 1 < 256 → number + 1 ≡ next
    → Some node ≡ slice_get nodes number → new ≡ out ++ node_text number node
    → out ++ nodes_text number (drop number nodes) ≡ start → new ++ nodes_text next (drop next nodes) ≡ start
node_more out new start number next node nodes small next_is found is whole =
    let below : number < 255 = omega arith in
    let cut : drop number nodes ≡ node ∷ drop (number + 1) nodes = rw add-one (at_node nodes number node (sym found)) in
    let h = rw (cut, lt-ltb number 255 below) at whole in
    rw (← next_is, is) (append_assoc out (node_text number node) (nodes_text (number + 1) (drop (number + 1) nodes)) ∙ h)

pub node_last : (out new start : List ℕ) (number : ℕ) (node : NodeValue) (nodes : List NodeValue) → 255 ≤ number
    → Some node ≡ slice_get nodes number → new ≡ out ++ node_text number node
    → out ++ nodes_text number (drop number nodes) ≡ start → new ≡ start
node_last out new start number node nodes great found is whole =
    let h = rw (at_node nodes number node (sym found), le-ltb number 255 great, append-nil (node_text number node)) at whole in
    is ∙ h

pub no_node : (out start : List ℕ) (number : ℕ) (nodes : List NodeValue) → None ≡ slice_get nodes number
    → out ++ nodes_text number (drop number nodes) ≡ start → out ≡ start
no_node out start number nodes none whole = sym (append-nil out) ∙ (rw (at_end nodes number (sym none)) at whole)

-- ---- the clients

-- the clients from one on, in two parts
client_more : (seats : List Seat) (history : List Entry) (book : BookValue) (left number : ℕ)
    → clients_text seats history book number (left + 1) ≡ clients_text seats history book number left ++ client_part seats history book (number + left)
unfolding clients_text
client_more seats history book zero number = let e : number + 0 ≡ number = omega arith in rw e (append-nil (client_part seats history book number))
client_more seats history book (suc left) number =
    let e : number + 1 + left ≡ number + suc left = omega arith in
    let n : suc left + 1 ≡ suc (left + 1) = omega arith in
    rw (n, client_more seats history book left (number + 1), e)
    (sym (append_assoc (client_part seats history book number) (clients_text seats history book (number + 1) left) (client_part seats history book (number + suc left))))

pub no_client : (seats : List Seat) (history : List Entry) (book : BookValue) (out : List ℕ) → out ≡ out ++ clients_text seats history book 0 0
unfolding clients_text
no_client seats history book out = sym (append-nil out)

pub next_client : (seats : List Seat) (history : List Entry) (book : BookValue) (start now new : List ℕ) (number : ℕ) → now ≡ start ++ clients_text seats history book 0 number
    → new ≡ now ++ client_part seats history book number → new ≡ start ++ clients_text seats history book 0 (number + 1)
next_client seats history book start now new number so_far is =
    is ∙ (ap (λ (xs : List ℕ). xs ++ client_part seats history book number) so_far
    ∙ (append_assoc start (clients_text seats history book 0 number) (client_part seats history book number)
    ∙ ap (λ (xs : List ℕ). start ++ xs) (sym (client_more seats history book number 0 ∙ same))))
  where
    same : clients_text seats history book 0 number ++ client_part seats history book (0 + number) ≡ clients_text seats history book 0 number ++ client_part seats history book number
    same = let e : 0 + number ≡ number = omega arith in rw e refl

pub all_clients : (seats : List Seat) (history : List Entry) (book : BookValue) (start now : List ℕ) (number : ℕ) → number ≡ 256 → now ≡ start ++ clients_text seats history book 0 number
    → now ≡ start ++ clients_text seats history book 0 256
all_clients seats history book start now number end so_far = rw (← end) so_far

four_parts : (first second third fourth a b c d e : List ℕ) → a ≡ [] → b ≡ a ++ first → c ≡ b ++ second → d ≡ c ++ third → e ≡ d ++ fourth
    → e ≡ first ++ (second ++ (third ++ fourth))
four_parts first second third fourth a b c d e none one two three four =
    rw (four, three, two, one, none) (append_assoc (first ++ second) third fourth ∙ append_assoc first second (third ++ fourth))

pub whole_output : (script : Script) (seats : List Seat) (history answered counted shown : List Entry) (book : BookValue) (journal : Bool) (a b c d e : List ℕ)
    → seats ≡ script.seats → answered ≡ history → counted ≡ history → shown ≡ history
    → a ≡ [] → b ≡ a ++ clients_text seats answered book 0 256 → c ≡ b ++ nodes_text 0 book.nodes → d ≡ c ++ totals_text counted book
    → e ≡ d ++ shown_journal shown book journal → e ≡ out_of script history book journal
whole_output script seats history answered counted shown book journal a b c d e is_seats is_answered is_counted is_shown none one two three four =
    rw (← is_seats, ← is_answered) (
    four_parts (clients_text seats answered book 0 256) (nodes_text 0 book.nodes) (totals_text answered book) (shown_journal answered book journal) a b c d e
    none one two (rw (is_answered, ← is_counted) three) (rw (is_answered, ← is_shown) four))
