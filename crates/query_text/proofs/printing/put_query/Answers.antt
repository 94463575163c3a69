use Rattle.std.proofs.Common.{subst, ◌∙◌, ◌++◌, codes}
use Rattle.std.specs.Fmt.{decimal}
use Rattle.tk_io.specs.Pieces.{Puts}
use Rattle.tk_io.proofs.Putting.{puts_then}
use Rattle.query_text.specs.Pieces.{text_of}
use Rattle.query_text.specs.Shape.{expr_pieces}
use Rattle.query_text.specs.Query.{written}
use Rattle.query_text.specs.Printing.{algorithm_text, cost_text, room_text}
use Rattle.query_text.proofs.PutLaws.{query_text}
use Rattle.query_text.proofs.printing.put_query.Goals as goal

pub returns : goal.returns
returns g c =
    let q = c.args.query.now in
    subst (Puts (g.P.Put.at c.args.out.now) (g.P.Put.at c.put_room.new.out))
    ((λ i. codes "top " ++ (decimal (c.from.ensures i) ++ (codes " by " ++ (text_of (expr_pieces (written q.names (c.root.ensures.tree i))) ++ (codes " using " ++ (algorithm_text q.algorithm ++ (cost_text q.cost ++ room_text q.room)))))))
    ∙ query_text q)
    (puts_then _ _ _ _ _ c.put.ensures.puts
    (puts_then _ _ _ _ _ c.put_number.ensures.puts
    (puts_then _ _ _ _ _ c.put-2.ensures.puts
    (puts_then _ _ _ _ _ c.put_expr.ensures
    (puts_then _ _ _ _ _ c.put-3.ensures.puts
    (puts_then _ _ _ _ _ c.put_algorithm.ensures
    (puts_then _ _ _ _ _ c.put_cost.ensures c.put_room.ensures)))))))
