-- The promises of the reader and the writer, from the two ways of the round trip.
use Rattle.std.proofs.Common.{◌≡◌, ℕ, List, ◌++◌, length, get_or, drop, Ok, Err, Result, sym, refl, ◌∙◌, arith, w8, Fits, rules}
use Rattle.std.proofs.lemmas.List.{take_at, drop_at}
use Rattle.update.specs.declared.refusal.Refusal.{Refusal}
use Rattle.update.specs.declared.parts.Parts.{Parts}
use Rattle.update.specs.Contents.{Contents, contents}
use Rattle.update.specs.Laws.{Bytes, OnlyTextOf, AcceptsTexts, Written, Unwritten}
use Rattle.update.specs.Layout.{layout, Fitting, TextOf}
use Rattle.update.specs.Reading.{reads}
use Rattle.outcome.specs.Outcomes.{Answers}
use Rattle.update.specs.Writing.{faults, writes}
use Rattle.update.proofs.Back.{read_then_written}
use Rattle.update.proofs.Faults.{Fault, fault_of, reads_faults, parts_faults}
use Rattle.update.proofs.Forming.{no_faults, tested_from_formed, text_of_written, written_of_text, text_length}
use Rattle.update.proofs.Forth.{written_then_read}
use Rattle.outcome.proofs.Steps.{no_ok, ok_same}

pub bytes_fit : (t : List ℕ) → ((i : ℕ) → Fits w8 (get_or t i 0)) → Bytes t
bytes_fit t b i = let k = b i in search rules

only_text_of : (t : List ℕ) (p : Contents) → Bytes t → reads t ≡ Ok p → OnlyTextOf p t
only_text_of t p b h =
    let w = read_then_written t p b h in
    let x = text_of_written p t w in
    let n = text_length p x.formed in
    record {
      text_of = x;
      written = w;
      only = λ q f y. ok_same q p (sym (written_then_read t q f (written_of_text q t y)) ∙ h);
      at_least = rw x.laid_out n.0;
      at_most = rw x.laid_out n.1;
    }

pub accepts_texts : (t : List ℕ) (r : Result Parts Refusal) → Bytes t → Answers contents r (reads t) → AcceptsTexts t r
accepts_texts t (Ok p) b h = only_text_of t (contents p) b h
accepts_texts t (Err e) b h = record {
  of_none = λ q f y. no_ok e q (sym h ∙ written_then_read t q f (written_of_text q t y));
  number = fault.0;
  place = fault.1;
}
  where
    fault : Fault (length t) e
    fault = fault_of e h (reads_faults t)

-- what is formed has no faults, and stands at the front once written
pub refused : (p : Contents) (out : List ℕ) (e : Refusal) → faults p ≡ Err e → Unwritten p out e out
refused p out e h =
    let fault : Fault 0 e = fault_of e h (parts_faults p) in
    record {
      not_formed = λ _ x. no_ok e tt (sym h ∙ no_faults p (tested_from_formed p x));
      place = omega arith;
      unaltered = refl;
    }

at_front : (p : Contents) (t out : List ℕ) → TextOf p t → reads t ≡ Ok p → Written p out (length t) (t ++ drop (length t) out)
at_front p t out x r =
    let front = take_at t (drop (length t) out) (length t) refl in
    record { text_of = rw front x; read_back = rw front r; later = drop_at t (drop (length t) out) (length t) refl }

pub written : (p : Contents) (out : List ℕ) → Fitting p → faults p ≡ Ok tt → Written p out (length (layout p)) (layout p ++ drop (length (layout p)) out)
written p out f h =
    let w : writes p ≡ Ok (layout p) = rw h in
    at_front p (layout p) out (text_of_written p (layout p) w) (written_then_read (layout p) p f w)
