-- The lines of a load script.
use Rattle.std.specs.Prelude.{ℕ, zero, suc, ◌/◌, ◌%◌, ◌==◌, false, List, [], ◌∷◌, ◌++◌, codes, decimal, if◌then◌else◌}
use Rattle.std.specs.Fmt.{digit_glyph}
use Rattle.qs_gen.specs.declared.lines.Label.{Label}

-- client K N: the clients sit at the four nodes in turn
abbrev pub client_line : ℕ → List ℕ
client_line client = codes "client " ++ (decimal client ++ (codes " " ++ (decimal (client % 4) ++ codes "\n")))

-- cKtJ
abbrev pub label_text : Label → List ℕ
label_text label = codes "c" ++ (decimal label.client ++ (codes "t" ++ decimal label.number))

-- K begin cKtJ
abbrev pub begin_line : Label → List ℕ
begin_line label = decimal label.client ++ (codes " begin " ++ (label_text label ++ codes "\n"))

-- the last so many hexadecimal digits of a number, in lower case
unfoldable pub hex_digits : ℕ → ℕ → List ℕ
hex_digits zero n = []
hex_digits (suc count) n = hex_digits count (n / 16) ++ digit_glyph false (n % 16) ∷ []

-- K put cKtJ N cKtJpP X: one word tells the node, and another is the text
abbrev pub put_line : Label → ℕ → ℕ → ℕ → List ℕ
put_line label file node_word text_word =
    decimal label.client ++ (codes " put " ++ (label_text label ++ (codes " " ++ (decimal (node_word % 4) ++ (codes " "
    ++ (label_text label ++ (codes "p" ++ (decimal file ++ (codes " " ++ (hex_digits 8 text_word ++ codes "\n"))))))))))

abbrev pub end_word : ℕ → List ℕ
end_word word = if word % 8 == 0 then codes "abort" else codes "commit"

-- K commit cKtJ, or abort
abbrev pub end_line : Label → ℕ → List ℕ
end_line label word = decimal label.client ++ (codes " " ++ (end_word word ++ (codes " " ++ (label_text label ++ codes "\n"))))
