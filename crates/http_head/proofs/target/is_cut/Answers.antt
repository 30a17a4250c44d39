use Rattle.std.proofs.Common.{◌≡◌, ◌∙◌, ◌<◌, ℕ, ◌+◌, List, Bool, ap, sym, true, false, arith, length, take, drop, rules}
use Rattle.std.specs.Prelude.{◌&&◌}
use Rattle.std.specs.List.{list_all}
use Rattle.httparse.specs.Grammar.{is_token, is_uri_byte}
use Rattle.http_head.specs.Blank.{space_place}
use Rattle.gate_io.proofs.Known.{rest_is}
use Rattle.http_head.proofs.TargetLemmas.{cut_line_is, no_space_no_cut}
use Rattle.http_head.proofs.target.is_cut.Goals as goal

pub returns-then-place-line : goal.returns-then-place-line
returns-then-place-line c =
    let all : space_place c.args.line.now ≡ length c.args.line.now = search rules in
    sym (no_space_no_cut c.args.line.now all)

pub returns-then-not-is_method : goal.returns-then-not-is_method
returns-then-not-is_method c =
    let line : List ℕ = c.args.line.now in
    let place : ℕ = c.first_space-place.result in
    let below : place < length line = omega arith in
    let method : is_token (take place line) ≡ false = search rules in
    sym (cut_line_is line place c.first_space-place.ensures.value below ∙ ap (λ (b : Bool). b && list_all is_uri_byte (drop (place + 1) line)) method)

pub returns : goal.returns
returns c =
    let line : List ℕ = c.args.line.now in
    let place : ℕ = c.first_space-place.result in
    let below : place < length line = omega arith in
    let method : is_token (take place line) ≡ true = search rules in
    let target : c.is_target.result ≡ list_all is_uri_byte (drop (place + 1) line) = c.is_target.ensures ∙ ap (list_all is_uri_byte) (rest_is (place + 1) line) in
    target ∙ sym (cut_line_is line place c.first_space-place.ensures.value below ∙ ap (λ (b : Bool). b && list_all is_uri_byte (drop (place + 1) line)) method)
