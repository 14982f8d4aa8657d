-- What comes of a line, by what reading it answers. Assumes nothing.
use Rattle.std.proofs.Common.{◌≡◌, ℕ, List, [], Ok, Err, Result, ap, subst, inr}
use Rattle.demand.specs.declared.factor.Factor.{Factor}
use Rattle.table.specs.Account.{Account, fresh_account}
use Rattle.planfile.specs.declared.fault.LineFault.{LineFault}
use Rattle.planfile.specs.declared.request.Opening.{Opening}
use Rattle.planfile.specs.declared.request.Request.{Request}
use Rattle.planfile.specs.Checks.{clock_of}
use Rattle.planfile.specs.Fault.{nothing, first_blame, line_blame}
use Rattle.planfile.specs.Reading.{first_fields}
use Rattle.planfile.specs.Requests.{RequestRead, clock_line_checks, opening_checks, opening_of, request_checks}
use Rattle.call_log.specs.Logs.{clock_due, evening, over, table_due, LineSays, RequestSays, Turn, refuses, says}
use Rattle.call_log.proofs.Tells.{is_refused}

module _ (k : ℕ) (text items : List ℕ) (same : text ≡ items) where
  -- a table line, or what is none
  pub opening_says : (o : Opening) → first_blame (opening_checks text) ≡ nothing → o ≡ opening_of (first_fields text) → LineSays table_due k items (says [] (clock_due o))
  opening_says o pass is = subst (λ t. LineSays table_due k t (says [] (clock_due o))) same (inr (pass, ap (λ (x : Opening). says [] (clock_due x)) is))

  pub opening_refused : (f : LineFault) → first_blame (opening_checks text) ≡ line_blame f → LineSays table_due k items (refuses k (line_blame f) over)
  opening_refused f e = subst (λ t. LineSays table_due k t (refuses k (line_blame f) over)) same (is_refused k (first_blame (opening_checks text)) over f _ e)

  -- a clock line, or what is none
  pub clock_says : (o : Opening) (clock : Factor) → first_blame (clock_line_checks text) ≡ nothing → clock ≡ clock_of (first_fields text) → LineSays (clock_due o) k items (says [] (evening clock (fresh_account o.number o.places)))
  clock_says o clock pass is = subst (λ t. LineSays (clock_due o) k t (says [] (evening clock (fresh_account o.number o.places)))) same (inr (pass, ap (λ (x : Factor). says [] (evening x (fresh_account o.number o.places))) is))

  pub clock_refused : (o : Opening) (f : LineFault) → first_blame (clock_line_checks text) ≡ line_blame f → LineSays (clock_due o) k items (refuses k (line_blame f) over)
  clock_refused o f e = subst (λ t. LineSays (clock_due o) k t (refuses k (line_blame f) over)) same (is_refused k (first_blame (clock_line_checks text)) over f _ e)

  module _ (clock : Factor) (a : Account) (table : ℕ) (number : table ≡ a.number) (r : Result Request LineFault) (read : RequestRead clock table text r) where
    at_number : RequestRead clock a.number text r
    at_number = subst (λ n. RequestRead clock n text r) number read

    -- a request, or what is none
    pub request_says : (request : Request) → r ≡ Ok request → (turn : Turn) → RequestSays clock a k text request turn → LineSays (evening clock a) k items turn
    request_says request is turn answered =
        let asks = subst (λ q. RequestRead clock a.number text q) is at_number in
        subst (λ t. LineSays (evening clock a) k t turn) same (inr (asks.0, (request, asks.1, answered)))

    pub request_refused : (f : LineFault) → r ≡ Err f → LineSays (evening clock a) k items (refuses k (line_blame f) (evening clock a))
    request_refused f is =
        let e = subst (λ q. RequestRead clock a.number text q) is at_number in
        subst (λ t. LineSays (evening clock a) k t (refuses k (line_blame f) (evening clock a))) same (is_refused k (first_blame (request_checks text)) (evening clock a) f _ e)
