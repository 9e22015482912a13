-- The words of a line, and what each kind of word says.
use Rattle.std.specs.Prelude.{ℕ, suc, zero, ◌+◌, ◌-◌, ◌*◌, ◌/◌, ◌%◌, ◌^◌, Bool, true, false, ◌&&◌, ◌||◌, List, [], ◌∷◌, ◌++◌, length, map, take, drop, replicate, slice_index, nat_eq, nat_le, Option, Some, None, option_and_then, codes, if◌then◌else◌}
use Rattle.std.specs.List.{slice_split, list_all, position, range_with_len}
use Rattle.std.specs.Option.{option_map, unwrap_or}
use Rattle.std.specs.Str.{bytes_eq}
use Rattle.dr_ids.specs.Spelling.{digit_in, spelled, hex_word, all_digits, volume_word, lss_word, number_word}
use Rattle.dr_ids.specs.declared.names.VolumeId.{VolumeId}
use Rattle.dr_model.specs.declared.step.Name.{Name}
use Rattle.dr_model.specs.declared.step.TornWord.{TornWord}
use Rattle.dr_model.specs.declared.step.TornWord.TheVariants.{Same, Fill, Bytes}
use Rattle.dr_model.specs.declared.grammar.Item.{Item}
use Rattle.dr_model.specs.declared.grammar.Span.{Span}

infixl 10 ◌>>=◌
-- a value, where it is there, taken on by a function that may give none
abbrev pub ◌>>=◌ : {A B : Type 0} → Option A → (A → Option B) → Option B
o >>= f = option_and_then f o

-- a word, with the column of its first byte, counted from 1
pub record Word : Type 0 where
  pub column : ℕ
  pub bytes : List ℕ

-- spaces and tabs stand between words
abbrev pub is_gap : ℕ → Bool
is_gap b = nat_eq b 32 || nat_eq b 9

-- the pieces of a line, cut at each gap, that aren't empty, where the first begins in that column
unfoldable pub words_from : ℕ → List (List ℕ) → List Word
words_from column [] = []
words_from column ([] ∷ pieces) = words_from (column + 1) pieces
words_from column ((b ∷ bs) ∷ pieces) = record { column = column; bytes = b ∷ bs } ∷ words_from (column + length bs + 2) pieces

-- the words that stand behind so many bytes of a line
unfoldable pub words_behind : ℕ → List ℕ → List Word
words_behind at line = words_from (at + 1) (slice_split is_gap (drop at line))

-- the words of a line, each with the column of its first byte, counted from 1; spaces and tabs stand between
abbrev pub line_words : List ℕ → List Word
line_words line = words_behind 0 line

-- a letter
abbrev pub is_letter : ℕ → Bool
is_letter b = (nat_le 65 b && nat_le b 90) || (nat_le 97 b && nat_le b 122)

-- letters, digits, `.`, `-` and `_` may stand in a name
abbrev pub is_name_byte : ℕ → Bool
is_name_byte b = is_letter b || (nat_le 48 b && nat_le b 57) || nat_eq b 46 || nat_eq b 45 || nat_eq b 95

-- the first byte is a letter
abbrev pub begins_with_letter : List ℕ → Bool
begins_with_letter [] = false
begins_with_letter (b ∷ bs) = is_letter b

-- a name has 1 to 24 such bytes, the first a letter
abbrev pub is_name : List ℕ → Bool
is_name word = nat_le (length word) 24 && begins_with_letter word && list_all is_name_byte word

-- the name of so many bytes, with zeros behind them
abbrev pub name_of : List ℕ → Name
name_of word = record { len = length word; bytes = word ++ replicate (24 - length word) 0 }

-- the name that a word says; none where it is no name
abbrev pub name_word : List ℕ → Option Name
name_word word = if is_name word then Some (name_of word) else None

-- the bytes before a place of a word
abbrev pub before : ℕ → List ℕ → List ℕ
before place word = take place word

-- the bytes behind a place of a word
abbrev pub behind : ℕ → List ℕ → List ℕ
behind place word = drop (place + 1) word

-- the place of the first such byte of a word
abbrev pub mark_at : ℕ → List ℕ → Option ℕ
mark_at mark word = position (λ b. nat_eq b mark) word

-- a number below 2^32 in decimal digits
abbrev pub decimal_word : List ℕ → Option ℕ
decimal_word word = number_word (2 ^ 32 - 1) word

-- a number, or `all`, which says no number
abbrev pub most_word : List ℕ → Option (Option ℕ)
most_word word = if bytes_eq word (codes "all") then Some None else option_map (λ n. Some n) (decimal_word word)

-- a sequence number has one to eight hexadecimal digits
abbrev pub sequence_word : List ℕ → Option ℕ
sequence_word word = if nat_le 1 (length word) && nat_le (length word) 8 then spelled 16 word else None

-- bytes in hexadecimal: 2 to 128 digits, two for each byte
abbrev pub is_hex : List ℕ → Bool
is_hex word = nat_le 2 (length word) && nat_le (length word) 128 && nat_eq (length word % 2) 0 && all_digits 16 word

-- the value of a digit, 0 for any other byte
abbrev pub digit_or_zero : ℕ → ℕ
digit_or_zero digit = unwrap_or (digit_in 16 digit) 0

-- the byte that the digits at twice a place spell
abbrev pub byte_at : List ℕ → ℕ → ℕ
byte_at word k = digit_or_zero (slice_index word (2 * k)) * 16 + digit_or_zero (slice_index word (2 * k + 1))

-- 64 bytes: those that the word spells, and zeros behind them
unfoldable pub spelled_bytes : List ℕ → List ℕ
spelled_bytes word = map (byte_at word) (range_with_len 0 64)

-- what a torn block has where it is changed: a byte that fills it, or 64 bytes
abbrev pub torn_bytes_word : List ℕ → Option TornWord
torn_bytes_word word =
    if nat_eq (length word) 128 then (if all_digits 16 word then Some (Bytes (spelled_bytes word)) else None) else option_map (λ n. Fill n) (hex_word 2 word)

-- what a torn block has: `none` leaves it as it was
abbrev pub torn_word : List ℕ → Option TornWord
torn_word word = if bytes_eq word (codes "none") then Some Same else torn_bytes_word word

-- the range of one volume
abbrev pub one_volume : VolumeId → Span
one_volume v = record { low = v.0; high = v.0 }

-- the range between two volumes of one subsystem, of which the second is not below the first
abbrev pub span_between : VolumeId → VolumeId → Option Span
span_between low high =
    if nat_eq (low.0 / 256) (high.0 / 256) && nat_le low.0 high.0 then Some (record { low = low.0; high = high.0 }) else None

-- a range whose dash stands at that place, or that has none
abbrev pub span_cut : List ℕ → Option ℕ → Option Span
span_cut word None = option_map one_volume (volume_word word)
span_cut word (Some dash) = volume_word (before dash word) >>= λ low. volume_word (behind dash word) >>= λ high. span_between low high

-- a range: one volume, or two with a dash between them
abbrev pub span_word : List ℕ → Option Span
span_word word = span_cut word (mark_at 45 word)

-- items with others behind them
abbrev pub onto : List Item → Option (List Item) → Option (List Item)
onto items more = option_map (λ new. items ++ new) more

-- so many items, of which the k-th is the k-th of one range with the k-th of the other
abbrev pub items_from : ℕ → ℕ → ℕ → List Item
items_from first second zero = []
items_from first second (suc n) = record { first = first; second = second } ∷ items_from (first + 1) (second + 1) n

-- how many volumes a range has
abbrev pub span_len : Span → ℕ
span_len span = span.high + 1 - span.low

-- the pairs of the volumes of two ranges, as many as the first has
unfoldable pub paired : Span → Span → List Item
paired a b = items_from a.low b.low (span_len a)

-- each volume of a range, as an item that has it twice
abbrev pub range_items : List ℕ → Option (List Item)
range_items word = option_map (λ span. paired span span) (span_word word)

-- the volumes of ranges with commas between them
unfoldable pub ranges_items : List (List ℕ) → Option (List Item)
ranges_items [] = Some []
ranges_items (word ∷ words) = range_items word >>= λ items. ranges_items words >>= λ more. Some (items ++ more)

-- a comma
abbrev pub is_comma : ℕ → Bool
is_comma b = nat_eq b 44

-- each volume of a list of ranges
abbrev pub list_items : List ℕ → Option (List Item)
list_items word = ranges_items (slice_split is_comma word)

-- two ranges of equal length: the k-th volume goes with the k-th
abbrev pub spans_paired : Span → Span → Option (List Item)
spans_paired a b = if nat_eq (span_len a) (span_len b) then Some (paired a b) else None

-- a pair of ranges whose colon stands at that place
abbrev pub pair_cut : List ℕ → Option ℕ → Option (List Item)
pair_cut word None = None
pair_cut word (Some colon) = span_word (before colon word) >>= λ a. span_word (behind colon word) >>= λ b. spans_paired a b

-- the pairs of two ranges with a colon between them
abbrev pub pair_items : List ℕ → Option (List Item)
pair_items word = pair_cut word (mark_at 58 word)

-- two logical subsystems whose colon stands at that place
abbrev pub lss_pair_cut : List ℕ → Option ℕ → Option (List Item)
lss_pair_cut word None = None
lss_pair_cut word (Some colon) = lss_word (before colon word) >>= λ l. lss_word (behind colon word) >>= λ m. Some (record { first = l.0; second = m.0 } ∷ [])

-- the pair of two logical subsystems with a colon between them
abbrev pub lss_pair_items : List ℕ → Option (List Item)
lss_pair_items word = lss_pair_cut word (mark_at 58 word)

-- one logical subsystem, which stands twice in its item
abbrev pub lss_items : List ℕ → Option (List Item)
lss_items word = lss_word word >>= λ l. Some (record { first = l.0; second = l.0 } ∷ [])

-- a port: `I` and four hexadecimal digits
abbrev pub is_port : List ℕ → Bool
is_port [] = false
is_port (b ∷ bs) = nat_eq b 73 && nat_eq (length bs) 4 && all_digits 16 bs

-- two ports whose colon stands at that place
abbrev pub are_ports_cut : List ℕ → Option ℕ → Bool
are_ports_cut word None = false
are_ports_cut word (Some colon) = is_port (before colon word) && is_port (behind colon word)

-- two ports with a colon between them
abbrev pub are_ports : List ℕ → Bool
are_ports word = are_ports_cut word (mark_at 58 word)

-- one end of a control path: a logical subsystem, which a name and a slash may stand before
abbrev pub is_lss : List ℕ → Bool
is_lss word = nat_eq (length word) 2 && all_digits 16 word

-- an end of a control path whose slash stands at that place, or that has none
abbrev pub is_path_end_cut : List ℕ → Option ℕ → Bool
is_path_end_cut word None = is_lss word
is_path_end_cut word (Some slash) = is_name (before slash word) && is_lss (behind slash word)

-- an end of a control path
abbrev pub is_path_end : List ℕ → Bool
is_path_end word = is_path_end_cut word (mark_at 47 word)

-- two ends of a control path whose colon stands at that place
abbrev pub is_control_path_cut : List ℕ → Option ℕ → Bool
is_control_path_cut word None = false
is_control_path_cut word (Some colon) = is_path_end (before colon word) && is_path_end (behind colon word)

-- two such ends with a colon between them
abbrev pub is_control_path : List ℕ → Bool
is_control_path word = is_control_path_cut word (mark_at 58 word)

-- a choice of two words: the first says yes, the second no
abbrev pub either_word : List ℕ → List ℕ → List ℕ → Option Bool
either_word first second word = if bytes_eq word first then Some true else if bytes_eq word second then Some false else None

-- a type of pairs: 1 for Metro Mirror, 2 for Global Copy
abbrev pub kind_word : List ℕ → Option ℕ
kind_word word = option_map (λ metro. if metro then 1 else 2) (either_word (codes "mmir") (codes "gcp") word)
