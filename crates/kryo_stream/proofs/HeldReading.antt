-- What reading the stream that bytes at hand begin with says of them, whatever follows.
use Rattle.std.proofs.Common.{◌≡◌, ◌≤◌, ◌+◌, ◌-◌, ◌++◌, ℕ, Bool, false, List, [], Some, Err, Ok, length, drop, sym, ap, subst, ◌∙◌, arith, append_assoc, length-append, length-drop}
use Rattle.std.proofs.lemmas.List.{drop-append-le}
use Rattle.index_turns.specs.Track.{TrackState}
use Rattle.kryo_stream.specs.Growth.{StreamsStay}
use Rattle.kryo_stream.specs.HeldStreams.{HoldsFault, HoldsStream, MOST_TAKEN}
use Rattle.kryo_stream.specs.Outcome.{Answer, IsRead, IsStream, IsTruncated, Says, input_of, most_padding}
use Rattle.kryo_stream.specs.Stream.{stream_length, total_bytes}
use Rattle.kryo_stream.specs.declared.fault.StreamFault.{StreamFault}
use Rattle.kryo_stream.specs.declared.fault.TrackFault.TheVariants.{Refused}

-- the room begins anew, and the source has these bytes, of which the rest stay
module _ (bytes rest : List ℕ) (used : Bool) (fresh : used ≡ false) (held : List ℕ) (nothing : held ≡ []) (held' : List ℕ) (flux : TrackState) where
  module _ (answer : Answer) (r : IsRead (Some bytes) (Some rest) used held held' flux answer) where
    same-input : (later : List ℕ) → input_of used ((held ++ r.taken) ++ (rest ++ later)) ≡ bytes ++ later
    same-input later =
        ap (λ (b : Bool). input_of b ((held ++ r.taken) ++ (rest ++ later))) fresh
        ∙ ap (λ (h : List ℕ). (h ++ r.taken) ++ (rest ++ later)) nothing
        ∙ sym (append_assoc r.taken rest later) ∙ ap (λ (x : List ℕ). x ++ later) (sym r.consumed)

    says : (later : List ℕ) → (IsTruncated answer → rest ++ later ≡ []) → Says answer (bytes ++ later) flux (held' ++ (rest ++ later))
    says later none = subst (λ (x : List ℕ). Says answer x flux (held' ++ (rest ++ later))) (same-input later) (r.says (rest ++ later) none)

    said : (IsTruncated answer → rest ≡ []) → Says answer bytes flux (held' ++ rest)
    said none =
        subst (λ (x : List ℕ). Says answer x flux (held' ++ rest))
        (ap (λ (b : Bool). input_of b ((held ++ r.taken) ++ rest)) fresh ∙ ap (λ (h : List ℕ). (h ++ r.taken) ++ rest) nothing ∙ sym r.consumed)
        (r.says rest none)

  module _ (u : Unit {0}) (stay : StreamsStay) (r : IsRead (Some bytes) (Some rest) used held held' flux (Ok u)) where
    whole : (later : List ℕ) → IsStream (bytes ++ later) flux (held' ++ (rest ++ later))
    whole later = says (Ok u) r later (λ cannot. absurd cannot)

    alone : IsStream bytes flux (held' ++ rest)
    alone = said (Ok u) r (λ cannot. absurd cannot)

    -- what was not used of them stands behind the stream
    pub parts : stream_length bytes + (length held' + length rest) ≡ length bytes
    parts =
        let within : stream_length bytes ≤ length bytes = (stay bytes [] alone.no_fault).within in
        let left : length held' + length rest ≡ length bytes - stream_length bytes =
        sym (length-append held' rest) ∙ ap length alone.rest ∙ length-drop (stream_length bytes) bytes in
        omega (arith, left, within)

    pub holds-stream : (size : ℕ) → size ≡ length bytes - length held' - length rest → HoldsStream bytes flux size
    holds-stream size is =
        let same : stream_length bytes ≡ size = omega (arith, is, parts) in
        let within : size ≤ length bytes = omega (arith, same, parts) in
        let size_is = λ (later : List ℕ). ap total_bytes (stay bytes later alone.no_fault).blocks ∙ same in record {
          is = λ (later : List ℕ). record {
            no_fault = (whole later).no_fault;
            times = (whole later).times;
            indexes = (whole later).indexes;
            rest = sym (drop-append-le size bytes later within) ∙ ap (λ (n : ℕ). drop n (bytes ++ later)) (sym (size_is later));
          };
          size_is = size_is;
          within = within;
        }

  pub holds-fault : (block : ℕ) (fault : StreamFault) → IsRead (Some bytes) (Some rest) used held held' flux (Err (Refused block fault)) → HoldsFault bytes (block, fault)
  holds-fault block fault r = record {
    is = λ (later : List ℕ) none. says (Err (Refused block fault)) r later (λ cut. ap (λ (x : List ℕ). x ++ later) (r.ended cut) ∙ none cut);
    few = λ cut.
        let gone : length rest ≡ 0 = ap length (r.ended cut) in
        let all : length bytes ≡ length r.taken + length rest = ap length r.consumed ∙ length-append r.taken rest in
        let most : length r.taken ≤ 0 + MOST_TAKEN =
        subst (λ (b : Bool). length r.taken ≤ most_padding b + MOST_TAKEN) fresh
        (subst (λ (h : List ℕ). length (h ++ r.taken) ≤ most_padding used + MOST_TAKEN) nothing r.few) in
        omega (arith, gone, all, most);
  }
