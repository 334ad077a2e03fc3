-- The Info block, byte by byte.
use Rattle.std.proofs.Common.{◌≡◌, ◌≤◌, ◌+◌, ◌++◌, ◌/◌, ◌%◌, ◌∙◌, ℕ, List, [], ◌∷◌, codes, length, ap, sym, arith, append_assoc, length-append}
use Rattle.kryo_stream.specs.Blocks.{out_of_band}
use Rattle.kryo_stream.specs.Protocol.{INFO_TYPE}
use Rattle.stream_texts.specs.Texts.{text_block}
use Rattle.disk_files.specs.Files.{info_block, info_text}

abbrev pub clocks : List ℕ
clocks = codes ", sck=24027428.5714285, ick=3003428.5714285"

pub length-text : (version : List ℕ) → length (info_text version) ≡ 63 + length version
unfolding info_text
length-text version =
    omega (arith, length-append (version ++ clocks) (0 ∷ []), length-append version clocks)

pub length-block : (text : List ℕ) → length (text_block text) ≡ 4 + length text
length-block text = length-append (out_of_band INFO_TYPE (length text)) text

-- the text, as it is put together
pub text-is : (version : List ℕ) → codes "name=flux, version=" ++ (version ++ (clocks ++ 0 ∷ [])) ≡ info_text version
unfolding info_text
text-is version = ap (λ (t : List ℕ). codes "name=flux, version=" ++ t) (sym (append_assoc version clocks (0 ∷ [])))

-- a text of fewer than 256 bytes
pub block-is : (version text : List ℕ) (size : ℕ) → length version ≤ 64 → text ≡ info_text version → size ≡ length text
    → 13 ∷ 4 ∷ size ∷ 0 ∷ text ≡ info_block version
block-is version text size few is sized =
    let whole = info_text version in
    let count = length-text version in
    let low : length whole % 256 ≡ length whole = omega (arith, few, count) in
    let high : length whole / 256 % 256 ≡ 0 = omega (arith, few, count) in
    ap (λ (t : List ℕ). 13 ∷ 4 ∷ size ∷ 0 ∷ t) is
    ∙ ap (λ (n : ℕ). 13 ∷ 4 ∷ n ∷ 0 ∷ whole) (sized ∙ ap length is ∙ sym low)
    ∙ ap (λ (n : ℕ). 13 ∷ 4 ∷ (length whole % 256) ∷ n ∷ whole) (sym high)
